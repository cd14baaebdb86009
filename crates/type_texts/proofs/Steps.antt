-- What tasks write, and what comes of one.
use Rattle.std.proofs.Common.{◌≡◌, ◌∙◌, ℕ, ◌+◌, ◌<◌, ◌≤◌, Bool, true, false, not, ◌&&◌, List, [], ◌∷◌, ◌++◌, length, reverse, All, codes, if◌then◌else◌, Result, Ok, Err, OnOk, refl, ap, sym, subst, arith}
use Rattle.std.specs.List.{flat_map}
use Rattle.std.proofs.lemmas.List.{append_assoc, append-nil, reverse-append, reverse-reverse}
use Rattle.std.proofs.lemmas.List.Sums.{fold-append}
use Rattle.std.proofs.lemmas.Grind.{flat_map-append}
use Rattle.std.proofs.lemmas.List.Elements.{All-nil, All-cons, All-append}
use Rattle.lp_resolve.specs.Symbols.{Begins}
use Rattle.lp_resolve.proofs.BeginsLemmas.{begins-refl, begins-trans}
use Rattle.type_texts.specs.declared.tasks.Task.{Task}
use Rattle.type_texts.specs.declared.tasks.Task.TheVariants.{Node as NodeTask, Space, Opening, Closing, Arrow}
use Rattle.type_texts.specs.OpenTypes.{OpenType, open_variable, open_word, open_applied}
use Rattle.type_texts.specs.TypeText.{variables_in, noted, noted_all, is_arrow_word, is_left_of_arrow, is_arrow, is_applied, type_text, bracketed}
use Rattle.type_texts.specs.inside.Tasks.{bracketed_task, applied_tasks, task_text, task_variables, weight, task_weight, total_weight, IsTaskWithin, Writes}

-- the text of a type in brackets or not, and its variables
text-bracketed : (table : List (List ℕ)) (u : ℕ → OpenType) (all : List ℕ) (b : Bool) (k : ℕ) → flat_map (task_text table u all) (bracketed_task b k) ≡ bracketed b (type_text table all (u k))
text-bracketed table u all true k = refl
text-bracketed table u all false k = append-nil (type_text table all (u k))

variables-bracketed : (u : ℕ → OpenType) (b : Bool) (k : ℕ) → flat_map (task_variables u) (bracketed_task b k) ≡ variables_in (u k)
variables-bracketed u true k = append-nil (variables_in (u k))
variables-bracketed u false k = append-nil (variables_in (u k))

-- the text of an application, from that of its parts
text-applied : (table : List (List ℕ)) (u : ℕ → OpenType) (all : List ℕ) (l r : ℕ) → flat_map (task_text table u all) (applied_tasks u l r) ≡ type_text table all (open_applied (u l) (u r))
text-applied table u all l r = at (is_arrow_word (u l)) where
  F : Task → List ℕ
  F = task_text table u all

  B : Bool
  B = not (is_left_of_arrow (u l)) && is_applied (u r)

  T : List ℕ
  T = type_text table all (u r)

  at : (b : Bool)
      → flat_map F (if b then bracketed_task (is_arrow (u r)) r ++ Arrow ∷ [] else NodeTask l ∷ Space ∷ bracketed_task B r)
      ≡ (if b then bracketed (is_arrow (u r)) T ++ codes " ->" else type_text table all (u l) ++ (codes " " ++ bracketed B T))
  at true = flat_map-append F (bracketed_task (is_arrow (u r)) r) (Arrow ∷ []) ∙ ap (λ (xs : List ℕ). xs ++ codes " ->") (text-bracketed table u all (is_arrow (u r)) r)
  at false = ap (λ (xs : List ℕ). type_text table all (u l) ++ (codes " " ++ xs)) (text-bracketed table u all B r)

-- the word of arrows has no variables
none-in-arrow : (t : OpenType) → is_arrow_word t ≡ true → variables_in t ≡ []
none-in-arrow (open_variable x) e = absurd (let f : false ≡ true = e in cc)
none-in-arrow (open_word w) e = refl
none-in-arrow (open_applied f a) e = absurd (let g : false ≡ true = e in cc)

variables-applied : (u : ℕ → OpenType) (l r : ℕ) → flat_map (task_variables u) (applied_tasks u l r) ≡ variables_in (u l) ++ variables_in (u r)
variables-applied u l r = at (is_arrow_word (u l)) refl where
  F : Task → List ℕ
  F = task_variables u

  B : Bool
  B = not (is_left_of_arrow (u l)) && is_applied (u r)

  at : (b : Bool) → is_arrow_word (u l) ≡ b → flat_map F (if b then bracketed_task (is_arrow (u r)) r ++ Arrow ∷ [] else NodeTask l ∷ Space ∷ bracketed_task B r) ≡ variables_in (u l) ++ variables_in (u r)
  at true e =
      flat_map-append F (bracketed_task (is_arrow (u r)) r) (Arrow ∷ []) ∙ append-nil (flat_map F (bracketed_task (is_arrow (u r)) r)) ∙ variables-bracketed u (is_arrow (u r)) r
      ∙ ap (λ (xs : List ℕ). xs ++ variables_in (u r)) (sym (none-in-arrow (u l) e))
  at false e = ap (λ (xs : List ℕ). variables_in (u l) ++ xs) (variables-bracketed u B r)

-- the weight of several tasks
weight-append : (u : ℕ → OpenType) (xs ys : List Task) → total_weight u (xs ++ ys) ≡ total_weight u xs + total_weight u ys
weight-append u [] ys = omega arith
weight-append u (t ∷ ts) ys = omega (arith, weight-append u ts ys)

weight-bracketed : (u : ℕ → OpenType) (b : Bool) (k : ℕ) → total_weight u (bracketed_task b k) ≤ 2 + weight (u k)
weight-bracketed u true k = omega arith
weight-bracketed u false k = omega arith

weight-applied : (u : ℕ → OpenType) (l r : ℕ) → total_weight u (applied_tasks u l r) < 5 + (weight (u l) + weight (u r))
weight-applied u l r = at (is_arrow_word (u l)) where
  B : Bool
  B = not (is_left_of_arrow (u l)) && is_applied (u r)

  at : (b : Bool) → total_weight u (if b then bracketed_task (is_arrow (u r)) r ++ Arrow ∷ [] else NodeTask l ∷ Space ∷ bracketed_task B r) < 5 + (weight (u l) + weight (u r))
  at true = omega (arith, weight-append u (bracketed_task (is_arrow (u r)) r) (Arrow ∷ []), weight-bracketed u (is_arrow (u r)) r)
  at false = omega (arith, weight-bracketed u B r)

-- the nodes of the parts are there
within-bracketed : (n : ℕ) (b : Bool) (k : ℕ) → k < n → All (IsTaskWithin n) (bracketed_task b k)
within-bracketed n true k h =
    All-cons (IsTaskWithin n) Opening (NodeTask k ∷ Closing ∷ []) tt
    (All-cons (IsTaskWithin n) (NodeTask k) (Closing ∷ []) h (All-cons (IsTaskWithin n) Closing [] tt (All-nil (IsTaskWithin n))))
within-bracketed n false k h = All-cons (IsTaskWithin n) (NodeTask k) [] h (All-nil (IsTaskWithin n))

within-applied : (n : ℕ) (u : ℕ → OpenType) (l r : ℕ) → l < n → r < n → All (IsTaskWithin n) (applied_tasks u l r)
within-applied n u l r hl hr = at (is_arrow_word (u l)) where
  B : Bool
  B = not (is_left_of_arrow (u l)) && is_applied (u r)

  at : (b : Bool) → All (IsTaskWithin n) (if b then bracketed_task (is_arrow (u r)) r ++ Arrow ∷ [] else NodeTask l ∷ Space ∷ bracketed_task B r)
  at true = All-append (IsTaskWithin n) (bracketed_task (is_arrow (u r)) r) (Arrow ∷ []) (within-bracketed n (is_arrow (u r)) r hr) (All-cons (IsTaskWithin n) Arrow [] tt (All-nil (IsTaskWithin n)))
  at false = All-cons (IsTaskWithin n) (NodeTask l) (Space ∷ bracketed_task B r) hl (All-cons (IsTaskWithin n) Space (bracketed_task B r) tt (within-bracketed n B r hr))

-- a stack with some tasks put on it
pub stacked : (old new added : List Task) → new ≡ old ++ reverse added → reverse new ≡ added ++ reverse old
stacked old new added e = ap reverse e ∙ reverse-append old (reverse added) ∙ ap (λ (xs : List Task). xs ++ reverse old) (reverse-reverse added)

-- one part is written
pub written : (table : List (List ℕ)) (u : ℕ → OpenType) (vs text : List ℕ) (t : Task) (todo : List Task) (vs' text' s : List ℕ) → Begins vs vs' → vs' ≡ noted_all vs (task_variables u t)
    → ((all : List ℕ) → Begins vs' all → task_text table u all t ≡ s) → text' ≡ text ++ s → Writes table u vs text (t ∷ todo) vs' text' todo
written table u vs text t todo vs' text' s grows numbers same put = record {
  grows = grows;
  numbers = ap (λ (xs : List ℕ). noted_all xs (flat_map (task_variables u) todo)) numbers ∙ sym (fold-append noted vs (task_variables u t) (flat_map (task_variables u) todo));
  texts = λ all b.
      let rest = flat_map (task_text table u all) todo in
      ap (λ (xs : List ℕ). xs ++ rest) put ∙ append_assoc text s rest ∙ ap (λ (xs : List ℕ). text ++ (xs ++ rest)) (sym (same all b));
}

-- an application is replaced by its parts
pub replaced : (table : List (List ℕ)) (u : ℕ → OpenType) (vs text : List ℕ) (k l r : ℕ) (todo new : List Task) → u k ≡ open_applied (u l) (u r) → new ≡ applied_tasks u l r ++ todo → Writes table u vs text (NodeTask k ∷ todo) vs text new
replaced table u vs text k l r todo new e put = record {
  grows = begins-refl vs;
  numbers = ap (noted_all vs)
      (ap (flat_map (task_variables u)) put ∙ flat_map-append (task_variables u) (applied_tasks u l r) todo
      ∙ ap (λ (xs : List ℕ). xs ++ flat_map (task_variables u) todo) (variables-applied u l r ∙ sym (ap variables_in e)));
  texts = λ all b. ap (λ (xs : List ℕ). text ++ xs)
      (ap (flat_map (task_text table u all)) put ∙ flat_map-append (task_text table u all) (applied_tasks u l r) todo
      ∙ ap (λ (xs : List ℕ). xs ++ flat_map (task_text table u all) todo) (text-applied table u all l r ∙ sym (ap (type_text table all) e)));
}

pub replaced-fewer : (u : ℕ → OpenType) (k l r : ℕ) (todo new : List Task) → u k ≡ open_applied (u l) (u r) → new ≡ applied_tasks u l r ++ todo → total_weight u new < total_weight u (NodeTask k ∷ todo)
replaced-fewer u k l r todo new e put =
    let w : weight (u k) ≡ 5 + (weight (u l) + weight (u r)) = ap weight e in
    let n : total_weight u new ≡ total_weight u (applied_tasks u l r) + total_weight u todo = ap (total_weight u) put ∙ weight-append u (applied_tasks u l r) todo in
    omega (arith, w, n, weight-applied u l r)

pub replaced-within : (n : ℕ) (u : ℕ → OpenType) (l r : ℕ) (todo new : List Task) → l < n → r < n → new ≡ applied_tasks u l r ++ todo → All (IsTaskWithin n) todo → All (IsTaskWithin n) new
replaced-within n u l r todo new hl hr put a = subst (All (IsTaskWithin n)) (sym put) (All-append (IsTaskWithin n) (applied_tasks u l r) todo (within-applied n u l r hl hr) a)

-- each part has a weight
pub weight-some : (t : OpenType) → 0 < weight t
weight-some (open_variable x) = omega arith
weight-some (open_word w) = omega arith
weight-some (open_applied f a) = omega arith

pub task-weight-some : (u : ℕ → OpenType) (t : Task) → 0 < task_weight u t
task-weight-some u (NodeTask k) = weight-some (u k)
task-weight-some u Space = omega arith
task-weight-some u Opening = omega arith
task-weight-some u Closing = omega arith
task-weight-some u Arrow = omega arith

-- one step after others
pub writes-on : (table : List (List ℕ)) (u : ℕ → OpenType) (a b c x y z : List ℕ) (p q r : List Task) → Writes table u a x p b y q → Writes table u b y q c z r → Writes table u a x p c z r
writes-on table u a b c x y z p q r one two = record {
  grows = begins-trans one.grows two.grows;
  numbers = two.numbers ∙ one.numbers;
  texts = λ all h. two.texts all h ∙ one.texts all (begins-trans two.grows h);
}

-- nothing yet
pub writes-none : (table : List (List ℕ)) (u : ℕ → OpenType) (a x : List ℕ) (p : List Task) → Writes table u a x p a x p
writes-none table u a x p = record { grows = begins-refl a; numbers = refl; texts = λ all h. refl }

-- what follows where a result is Ok
pub on-ok : {A E P Q : Type 0} (r : Result A E) → OnOk r P → (P → Q) → OnOk r Q
on-ok (Ok a) p f = f p
on-ok (Err e) p f = tt

pub on-ok-both : {A E P Q R : Type 0} (r : Result A E) → OnOk r P → OnOk r Q → (P → Q → R) → OnOk r R
on-ok-both (Ok a) p q f = f p q
on-ok-both (Err e) p q f = tt

-- the stack after its last part was taken
pub popped : (old rest : List Task) (t : Task) → old ≡ rest ++ t ∷ [] → reverse old ≡ t ∷ reverse rest
popped old rest t e = ap reverse e ∙ reverse-append rest (t ∷ [])

pub emptied : (ts : List Task) → length ts ≡ 0 → ts ≡ []
emptied [] e = refl
emptied (t ∷ ts) e = absurd (omega (arith, e))
