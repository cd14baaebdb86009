-- Steps of the walk that makes nodes for terms.
use Rattle.std.proofs.Common.{◌≡◌, ℕ, zero, suc, ◌<◌, ◌≤◌, ◌+◌, ◌*◌, ◌++◌, List, [], ◌∷◌, length, map, reverse, take, drop, get_or, Option, refl, sym, ap, ap₂, ◌∙◌, arith, subst, length-append, append_assoc, append-nil}
use Rattle.std.proofs.lemmas.List.{reverse-append, reverse-reverse, length-map, map-append}
use Rattle.level_terms.specs.declared.node.TermId.{TermId}
use Rattle.level_terms.specs.Graph.{Graph}
use Rattle.level_terms.specs.Sound.{IsSound, AllOlder}
use Rattle.level_terms.specs.Growth.{Grows}
use Rattle.ref_terms.specs.terms.Term as term
use Rattle.ref_terms.specs.terms.Term.{Term, Head, At}
use Rattle.ref_terms.specs.lemmas.NameLemmas.{or_left, or_right}
use Rattle.beta_fragment.specs.declared.quoting.Task.{Task}
use Rattle.beta_fragment.specs.declared.quoting.Task.TheVariants.{Visit, Lam, App}
use Rattle.level_terms.specs.Values.{Value, value_of, IsLamOf, IsAppOf}
use Rattle.beta_fragment.specs.declared.cells.Cell.{Cell}
use Rattle.beta_fragment.specs.declared.cells.Cell.TheVariants as cell
use Rattle.beta_fragment.specs.inside.Cells.{term_at, cell_term, HasParts}
use Rattle.beta_fragment.specs.HeadForm.{IsAbstraction}
use Rattle.beta_fragment.specs.Quoted.{AllHeads, IsOpenHead, put_head}
use Rattle.beta_fragment.specs.inside.Quoting.{Quotes, Item, item, Setting, set_for, heads_of, AllQuote, MayStand, CanVisit, app_to, items_of, Comes, IsQuoting, term_size, task_size, tasks_size, visits_of, IsReady, AllThere, Unwinds}
use Rattle.level_terms.proofs.ReadLemmas.{valid-below}
use Rattle.level_terms.proofs.MakeLemmas.{values-kept}
use Rattle.beta_fragment.proofs.MoveLemmas.{assigned-before}
use Rattle.beta_fragment.proofs.QuoteLemmas.{quotes-lam, quotes-app}

newest-task : (work : List Task) (k : Task) → reverse (work ++ k ∷ []) ≡ k ∷ reverse work
newest-task work k = reverse-append work (k ∷ [])

-- nodes that are known to be terms, in lists
pub quote-append : (s : Setting) (a b : List Item) (xs ys : List Value) → AllQuote s a xs → AllQuote s b ys → AllQuote s (a ++ b) (xs ++ ys)
quote-append s [] b [] ys v w = w
quote-append s (i ∷ a) b [] ys v w = absurd v
quote-append s [] b (x ∷ xs) ys v w = absurd v
quote-append s (i ∷ a) b (x ∷ xs) ys v w = (v.0, quote-append s a b xs ys v.1 w)

pub quote-length : (s : Setting) (a : List Item) (xs : List Value) → AllQuote s a xs → length a ≡ length xs
quote-length s [] [] w = refl
quote-length s (i ∷ a) [] w = absurd w
quote-length s [] (x ∷ xs) w = absurd w
quote-length s (i ∷ a) (x ∷ xs) w = ap suc (quote-length s a xs w.1)

pub quote-split : (s : Setting) (a b : List Item) (xs ys : List Value) → length a ≡ length xs → AllQuote s (a ++ b) (xs ++ ys) → AllQuote s a xs × AllQuote s b ys
quote-split s [] b [] ys e w = (tt, w)
quote-split s (i ∷ a) b [] ys e w = absurd (omega (arith, e))
quote-split s [] b (x ∷ xs) ys e w = absurd (omega (arith, e))
quote-split s (i ∷ a) b (x ∷ xs) ys e w = let r = quote-split s a b xs ys (omega (arith, e)) w.1 in ((w.0, r.0), r.1)

pub quote-older : (s : Setting) (h : Graph) (st : List Item) (done : List TermId) → AllQuote s st (map (value_of h) done) → AllOlder (length h.nodes) done
quote-older s h st [] w = tt
quote-older s h [] (t ∷ ts) w = absurd w
quote-older s h (i ∷ st) (t ∷ ts) w = (valid-below h t.index (s.depth + i.under) w.0.holds, quote-older s h st ts w.1)

-- terms that may stand under abstractions
stand-front : (s : Setting) (k : ℕ) (f a : Term) → MayStand s k (term.App f a) → MayStand s k f
stand-front s k f a w = record { closed = w.closed.0; named = λ n h. or_left _ _ (w.named n h); heads = w.heads.0 }

stand-last : (s : Setting) (k : ℕ) (f a : Term) → MayStand s k (term.App f a) → MayStand s k a
stand-last s k f a w = record { closed = w.closed.1; named = λ n h. or_right _ _ (w.named n h); heads = w.heads.1 }

pub stand-body : (s : Setting) (k : ℕ) (b : Term) → MayStand s k (term.Lam b) → MayStand s (suc k) b
stand-body s k b w = record { closed = w.closed; named = w.named; heads = w.heads }

abbrev pub AllStand : Setting → ℕ → List Term → Type 0
AllStand s k [] = Unit {0}
AllStand s k (x ∷ xs) = MayStand s k x × AllStand s k xs

stand-spine : (s : Setting) (k : ℕ) (xs : List Term) (f : Term) → MayStand s k (app_to f xs) → MayStand s k f × AllStand s k xs
stand-spine s k [] f w = (w, tt)
stand-spine s k (x ∷ xs) f w = let r = stand-spine s k xs (term.App f x) w in (stand-front s k f x r.0, (stand-last s k f x r.0, r.1))

-- a visit that is done at once
pub visit-done : (s : Setting) (u : Item) (h h' : Graph) (work : List Task) (done done' : List TermId) (t k : ℕ) (r : TermId) → IsSound h → Grows h h' [] [] → Quotes (heads_of s) s.depth k (term_at s.terms t) (value_of h' r) → done' ≡ done ++ r ∷ [] →
    IsQuoting s u h (work ++ Visit t k ∷ []) done → IsQuoting s u h' work done'
visit-done s u h h' work done done' t k r sound gr m e q =
    let c = subst (λ (ks : List Task). Comes s ks q.stack u) (newest-task work (Visit t k)) q.comes in
    let same = values-kept h h' sound gr done (quote-older s h q.stack done q.known) in
    let values : map (value_of h') done' ≡ map (value_of h) done ++ value_of h' r ∷ [] = ap (map (value_of h')) e ∙ map-append (value_of h') done (r ∷ []) ∙ ap (λ (xs : List Value). xs ++ value_of h' r ∷ []) same in
    record {
      stack = q.stack ++ item k (term_at s.terms t) ∷ [];
      comes = c.1;
      known = subst (AllQuote s (q.stack ++ item k (term_at s.terms t) ∷ [])) (sym values) (quote-append s q.stack (item k (term_at s.terms t) ∷ []) (map (value_of h) done) (value_of h' r ∷ []) q.known (m, tt));
    }

-- a visit of an abstraction
pub visit-lam : (s : Setting) (u : Item) (h : Graph) (work new : List Task) (done : List TermId) (t b k i : ℕ) → b < length s.terms → term_at s.terms t ≡ term.Lam (term_at s.terms b) → i ≡ suc k → new ≡ (work ++ Lam k ∷ []) ++ Visit b i ∷ [] →
    IsQuoting s u h (work ++ Visit t k ∷ []) done → IsQuoting s u h new done
visit-lam s u h work new done t b k i there here inner e q =
    let c = subst (λ (ks : List Task). Comes s ks q.stack u) (newest-task work (Visit t k)) q.comes in
    let tasks : reverse new ≡ Visit b (suc k) ∷ Lam k ∷ reverse work = ap reverse e ∙ newest-task (work ++ Lam k ∷ []) (Visit b i) ∙ ap₂ (λ (j : ℕ) (ks : List Task). Visit b j ∷ ks) inner (newest-task work (Lam k)) in
    let stands = stand-body s k (term_at s.terms b) (subst (MayStand s k) here c.0.stands) in
    record {
      stack = q.stack;
      comes = subst (λ (ks : List Task). Comes s ks q.stack u) (sym tasks) (
        record { there = there; stands = stands },
        (q.stack, term_at s.terms b, refl, subst (λ (x : Term). Comes s (reverse work) (q.stack ++ item k x ∷ []) u) here c.1),
      );
      known = q.known;
    }

-- sizes
pub size-append : (ts : List Term) (xs ys : List Task) → tasks_size ts (xs ++ ys) ≡ tasks_size ts xs + tasks_size ts ys
size-append ts [] ys = omega arith
size-append ts (x ∷ xs) ys = let h = size-append ts xs ys in omega (arith, h)

size-reverse : (ts : List Term) (xs : List Task) → tasks_size ts (reverse xs) ≡ tasks_size ts xs
size-reverse ts [] = refl
size-reverse ts (x ∷ xs) =
    let e = ap (tasks_size ts) (reverse-append (x ∷ []) xs) ∙ size-append ts (reverse xs) (x ∷ []) in
    let h = size-reverse ts xs in
    omega (arith, e, h)

pub size-some : (t : Term) → 1 ≤ term_size t
size-some (term.Lam b) = omega arith
size-some (At h) = omega arith
size-some (term.App f a) = omega arith

pub done-smaller : (ts : List Term) (work : List Task) (k : Task) → tasks_size ts work < tasks_size ts (work ++ k ∷ [])
done-smaller ts work k =
    let e = size-append ts work (k ∷ []) in
    let some = task-some k in
    omega (arith, e, some)
  where
    task-some : (j : Task) → 1 ≤ task_size ts j
    task-some (Visit t i) = let h = size-some (term_at ts t) in omega (arith, h)
    task-some (Lam i) = omega arith
    task-some (App m) = omega arith

pub lam-smaller : (ts : List Term) (work new : List Task) (t b k i : ℕ) → term_at ts t ≡ term.Lam (term_at ts b) → new ≡ (work ++ Lam k ∷ []) ++ Visit b i ∷ [] → tasks_size ts new < tasks_size ts (work ++ Visit t k ∷ [])
lam-smaller ts work new t b k i here e =
    let after = ap (tasks_size ts) e ∙ size-append ts (work ++ Lam k ∷ []) (Visit b i ∷ []) in
    let before = size-append ts work (Lam k ∷ []) in
    let old = size-append ts work (Visit t k ∷ []) in
    let size = ap term_size here in
    omega (arith, after, before, old, size)

spine-size : (ts : List Term) (k : ℕ) (args : List ℕ) (f : Term) → tasks_size ts (visits_of k args) + 2 * term_size f + 2 * length args ≡ 2 * term_size (app_to f (map (term_at ts) args))
spine-size ts k [] f = omega arith
spine-size ts k (a ∷ args) f = let h = spine-size ts k args (term.App f (term_at ts a)) in omega (arith, h)

pub app-smaller : (ts : List Term) (work mid new : List Task) (t head k m : ℕ) → Unwinds ts t head k m work mid → new ≡ mid ++ Visit head k ∷ [] → tasks_size ts new < tasks_size ts (work ++ Visit t k ∷ [])
app-smaller ts work mid new t head k m w e =
    let after = ap (tasks_size ts) e ∙ size-append ts mid (Visit head k ∷ []) in
    let middle = ap (tasks_size ts) w.pushed ∙ size-append ts work (App m ∷ reverse (visits_of k w.args)) in
    let turned = size-reverse ts (visits_of k w.args) in
    let old = size-append ts work (Visit t k ∷ []) in
    let size = ap term_size w.spine in
    let parts = spine-size ts k w.args (term_at ts head) in
    let some = w.some in
    omega (arith, after, middle, turned, old, size, parts, some)

-- the spine of an application
pub unwinds-first : (ts : List Term) (t front last k m : ℕ) (work one two : List Task) → front < length ts → last < length ts → term_at ts t ≡ term.App (term_at ts front) (term_at ts last) → one ≡ work ++ App m ∷ [] → two ≡ one ++ Visit last k ∷ [] → Unwinds ts t front k m work two
unwinds-first ts t front last k m work one two f l here e e' = record {
  args = last ∷ [];
  there = f;
  some = omega arith;
  all = (l, tt);
  spine = here;
  pushed = e' ∙ ap (λ (ks : List Task). ks ++ Visit last k ∷ []) e ∙ append_assoc work (App m ∷ []) (Visit last k ∷ []);
}

pub unwinds-next : (ts : List Term) (t head inner a k m : ℕ) (work mid new : List Task) → inner < length ts → a < length ts → term_at ts head ≡ term.App (term_at ts inner) (term_at ts a) → new ≡ mid ++ Visit a k ∷ [] → Unwinds ts t head k m work mid → Unwinds ts t inner k m work new
unwinds-next ts t head inner a k m work mid new i l here e w = record {
  args = a ∷ w.args;
  there = i;
  some = omega arith;
  all = (l, w.all);
  spine = w.spine ∙ ap (λ (x : Term). app_to x (map (term_at ts) w.args)) here;
  pushed = e ∙ ap (λ (ks : List Task). ks ++ Visit a k ∷ []) w.pushed
      ∙ append_assoc work (App m ∷ reverse (visits_of k w.args)) (Visit a k ∷ [])
      ∙ ap (λ (ks : List Task). work ++ App m ∷ ks) (sym (reverse-append (Visit a k ∷ []) (visits_of k w.args)));
}

visits-come : (s : Setting) (u : Item) (k : ℕ) (rest : List Task) (args : List ℕ) (st : List Item) → AllThere s.terms args → AllStand s k (map (term_at s.terms) args) →
    Comes s rest (st ++ items_of k (map (term_at s.terms) args)) u → Comes s (visits_of k args ++ rest) st u
visits-come s u k rest [] st there stands c = subst (λ (is : List Item). Comes s rest is u) (append-nil st) c
visits-come s u k rest (a ∷ args) st there stands c = (
  record { there = there.0; stands = stands.0 },
  visits-come s u k rest args (st ++ item k (term_at s.terms a) ∷ []) there.1 stands.1
      (subst (λ (is : List Item). Comes s rest is u) (sym (append_assoc st (item k (term_at s.terms a) ∷ []) (items_of k (map (term_at s.terms) args)))) c),
)

unwound-tasks : (work mid new : List Task) (visits : List Task) (head k m : ℕ) → mid ≡ work ++ App m ∷ reverse visits → new ≡ mid ++ Visit head k ∷ [] → reverse new ≡ Visit head k ∷ (visits ++ App m ∷ reverse work)
unwound-tasks work mid new visits head k m e e' =
    ap reverse e' ∙ newest-task mid (Visit head k)
    ∙ ap (λ (ks : List Task). Visit head k ∷ ks) (ap reverse e ∙ reverse-append work (App m ∷ reverse visits)
    ∙ ap (λ (ks : List Task). ks ++ reverse work) (reverse-append (App m ∷ []) (reverse visits) ∙ ap (λ (ks : List Task). ks ++ App m ∷ []) (reverse-reverse visits))
    ∙ append_assoc visits (App m ∷ []) (reverse work))

pub visit-app : (s : Setting) (u : Item) (h : Graph) (work mid new : List Task) (done : List TermId) (t head k m : ℕ) → length done ≡ m → Unwinds s.terms t head k m work mid → new ≡ mid ++ Visit head k ∷ [] →
    IsQuoting s u h (work ++ Visit t k ∷ []) done → IsQuoting s u h new done
visit-app s u h work mid new done t head k m long w e q =
    let c = subst (λ (ks : List Task). Comes s ks q.stack u) (newest-task work (Visit t k)) q.comes in
    let xs = map (term_at s.terms) w.args in
    let f = term_at s.terms head in
    let stand = stand-spine s k (map (term_at s.terms) w.args) (term_at s.terms head) (subst (MayStand s k) w.spine c.0.stands) in
    let count : length q.stack ≡ m = quote-length s q.stack (map (value_of h) done) q.known ∙ length-map done (value_of h) ∙ long in
    let many : 0 < length (map (term_at s.terms) w.args) = (let l = length-map w.args (term_at s.terms) in let some = w.some in omega (arith, l, some)) in
    let last : Comes s (reverse work) (q.stack ++ item k (app_to (term_at s.terms head) (map (term_at s.terms) w.args)) ∷ []) u =
    subst (λ (x : Term). Comes s (reverse work) (q.stack ++ item k x ∷ []) u) w.spine c.1 in
    record {
      stack = q.stack;
      comes = subst (λ (ks : List Task). Comes s ks q.stack u) (sym (unwound-tasks work mid new (visits_of k w.args) head k m w.pushed e)) (
        record { there = w.there; stands = stand.0 },
        visits-come s u k (App m ∷ reverse work) w.args (q.stack ++ item k (term_at s.terms head) ∷ []) w.all stand.1 (
          q.stack,
          k,
          term_at s.terms head,
          map (term_at s.terms) w.args,
          append_assoc q.stack (item k (term_at s.terms head) ∷ []) (items_of k (map (term_at s.terms) w.args)),
          count,
          many,
          last,
        ),
      );
      known = q.known;
    }

-- an abstraction is made
pub lam-done : (s : Setting) (u : Item) (h h' : Graph) (work : List Task) (front done done' : List TermId) (body r : TermId) (k l : ℕ) → IsSound h → Grows h h' [] [] → l ≡ s.depth + k → IsLamOf l (value_of h body) (value_of h' r) → done ≡ front ++ body ∷ [] → done' ≡ front ++ r ∷ [] →
    IsQuoting s u h (work ++ Lam k ∷ []) done → IsQuoting s u h' work done'
lam-done s u h h' work front done done' body r k l sound gr level made e e' q =
    let c = subst (λ (ks : List Task). Comes s ks q.stack u) (newest-task work (Lam k)) q.comes in
    let values : map (value_of h) done ≡ map (value_of h) front ++ value_of h body ∷ [] = ap (map (value_of h)) e ∙ map-append (value_of h) front (body ∷ []) in
    let known : AllQuote s (c.0 ++ item (suc k) c.1 ∷ []) (map (value_of h) front ++ value_of h body ∷ []) = subst (λ (is : List Item). AllQuote s is (map (value_of h) front ++ value_of h body ∷ [])) c.2 (subst (AllQuote s q.stack) values q.known) in
    let long = quote-length s (c.0 ++ item (suc k) c.1 ∷ []) (map (value_of h) front ++ value_of h body ∷ []) known in
    let left = length-append c.0 (item (suc k) c.1 ∷ []) in
    let right = length-append (map (value_of h) front) (value_of h body ∷ []) in
    let parts = quote-split s c.0 (item (suc k) c.1 ∷ []) (map (value_of h) front) (value_of h body ∷ []) (omega (arith, long, left, right)) known in
    let same = values-kept h h' sound gr front (quote-older s h c.0 front parts.0) in
    let values' : map (value_of h') done' ≡ map (value_of h) front ++ value_of h' r ∷ [] = ap (map (value_of h')) e' ∙ map-append (value_of h') front (r ∷ []) ∙ ap (λ (xs : List Value). xs ++ value_of h' r ∷ []) same in
    record {
      stack = c.0 ++ item k (term.Lam c.1) ∷ [];
      comes = c.3;
      known = subst (AllQuote s (c.0 ++ item k (term.Lam c.1) ∷ [])) (sym values') (quote-append s c.0 (item k (term.Lam c.1) ∷ []) (map (value_of h) front) (value_of h' r ∷ []) parts.0
          (quotes-lam (heads_of s) s.depth k l c.1 (value_of h body) (value_of h' r) level parts.1.0 made, tt));
    }

-- an application is made
pub app-done : (s : Setting) (u : Item) (h h' : Graph) (work : List Task) (front args done done' : List TermId) (head r : TermId) (m : ℕ) → IsSound h → Grows h h' [] [] → length front ≡ m → IsAppOf (value_of h head) (map (value_of h) args) (value_of h' r) → done ≡ front ++ head ∷ args → done' ≡ front ++ r ∷ [] →
    IsQuoting s u h (work ++ App m ∷ []) done → IsQuoting s u h' work done'
app-done s u h h' work front args done done' head r m sound gr count made e e' q =
    let c = subst (λ (ks : List Task). Comes s ks q.stack u) (newest-task work (App m)) q.comes in
    let values : map (value_of h) done ≡ map (value_of h) front ++ value_of h head ∷ map (value_of h) args = ap (map (value_of h)) e ∙ map-append (value_of h) front (head ∷ args) in
    let known : AllQuote s (c.0 ++ item c.1 c.2 ∷ items_of c.1 c.3) (map (value_of h) front ++ value_of h head ∷ map (value_of h) args) = subst (λ (is : List Item). AllQuote s is (map (value_of h) front ++ value_of h head ∷ map (value_of h) args)) c.4 (subst (AllQuote s q.stack) values q.known) in
    let long : length c.0 ≡ length (map (value_of h) front) = c.5 ∙ sym count ∙ sym (length-map front (value_of h)) in
    let parts = quote-split s c.0 (item c.1 c.2 ∷ items_of c.1 c.3) (map (value_of h) front) (value_of h head ∷ map (value_of h) args) long known in
    let same = values-kept h h' sound gr front (quote-older s h c.0 front parts.0) in
    let values' : map (value_of h') done' ≡ map (value_of h) front ++ value_of h' r ∷ [] = ap (map (value_of h')) e' ∙ map-append (value_of h') front (r ∷ []) ∙ ap (λ (xs : List Value). xs ++ value_of h' r ∷ []) same in
    record {
      stack = c.0 ++ item c.1 (app_to c.2 c.3) ∷ [];
      comes = c.7;
      known = subst (AllQuote s (c.0 ++ item c.1 (app_to c.2 c.3) ∷ [])) (sym values') (quote-append s c.0 (item c.1 (app_to c.2 c.3) ∷ []) (map (value_of h) front) (value_of h' r ∷ []) parts.0
          (quotes-app s c.1 c.2 c.3 (value_of h head) (value_of h' r) (map (value_of h) args) parts.1.0 parts.1.1 made, tt));
    }

-- the next task can be done
heads-weaker : (p q : Head → Type 0) → ((h : Head) → p h → q h) → (t : Term) → AllHeads p t → AllHeads q t
heads-weaker p q f (term.Lam b) w = heads-weaker p q f b w
heads-weaker p q f (At (term.Bound i)) w = tt
heads-weaker p q f (At (term.Con i)) w = f (term.Con i) w
heads-weaker p q f (At (term.Int i)) w = f (term.Int i) w
heads-weaker p q f (At (term.Str i)) w = f (term.Str i) w
heads-weaker p q f (At (term.Name i)) w = f (term.Name i) w
heads-weaker p q f (At (term.Var i)) w = f (term.Var i) w
heads-weaker p q f (term.App a b) w = (heads-weaker p q f a w.0, heads-weaker p q f b w.1)

open-grown : (g h : Graph) → Grows g h [] [] → (x : Head) → IsOpenHead g x → IsOpenHead h x
open-grown g h w (term.Var v) o =
    let more = ap length w.depths ∙ length-append g.depths w.new_depths in
    let known = o.0 in
    (omega (arith, more, known), assigned-before g h w v ∙ o.1)
open-grown g h w (term.Con v) o = tt
open-grown g h w (term.Int v) o = tt
open-grown g h w (term.Str v) o = tt
open-grown g h w (term.Name v) o = tt
open-grown g h w (term.Bound v) o = tt

pub visit-grown : (g h : Graph) (ts : List Term) (depth : ℕ) (put : Option TermId) (t k : ℕ) → Grows g h [] [] → CanVisit (set_for g ts depth put) t k → CanVisit (set_for h ts depth put) t k
visit-grown g h ts depth put t k gr w = record {
  there = w.there;
  stands = record {
    closed = w.stands.closed;
    named = w.stands.named;
    heads = heads-weaker (IsOpenHead g) (IsOpenHead h) (open-grown g h gr) (term_at ts t) w.stands.heads;
  };
}

pub ready-next : (g h : Graph) (ts : List Term) (depth : ℕ) (put : Option TermId) (u : Item) (work : List Task) (task : Task) (done : List TermId) → Grows g h [] [] → IsQuoting (set_for g ts depth put) u h (work ++ task ∷ []) done → IsReady (set_for h ts depth put) (length done) task
ready-next g h ts depth put u work task done gr q =
    go task (subst (λ (ks : List Task). Comes (set_for g ts depth put) ks q.stack u) (newest-task work task) q.comes)
  where
    long : length q.stack ≡ length done
    long = quote-length (set_for g ts depth put) q.stack (map (value_of h) done) q.known ∙ length-map done (value_of h)

    go : (j : Task) → Comes (set_for g ts depth put) (j ∷ reverse work) q.stack u → IsReady (set_for h ts depth put) (length done) j
    go (Visit t k) c = visit-grown g h ts depth put t k gr c.0
    go (Lam k) c = let e = ap length c.2 ∙ length-append c.0 (item (suc k) c.1 ∷ []) in let l = long in omega (arith, e, l)
    go (App m) c =
        let e = ap length c.4 ∙ length-append c.0 (item c.1 c.2 ∷ items_of c.1 c.3) in
        let n = length-map c.3 (item c.1) in
        let l = long in
        let count = c.5 in
        let some = c.6 in
        omega (arith, e, n, l, count, some)

-- one visit, and no task
pub first-quotes : (s : Setting) (h : Graph) (t k : ℕ) (work : List Task) (done : List TermId) → CanVisit s t k → work ≡ Visit t k ∷ [] → done ≡ [] → IsQuoting s (item k (term_at s.terms t)) h work done
first-quotes s h t k work done v e d = record {
  stack = [];
  comes = subst (λ (ks : List Task). Comes s (reverse ks) [] (item k (term_at s.terms t))) (sym e) (v, refl);
  known = subst (λ (ds : List TermId). AllQuote s [] (map (value_of h) ds)) (sym d) tt;
}

only-item : {A : Type 0} (x : A) (front : List A) (y : A) → x ∷ [] ≡ front ++ y ∷ [] → x ≡ y
only-item x [] y e = cc
only-item x (z ∷ front) y e =
    let l = ap length e ∙ length-append (z ∷ front) (y ∷ []) in
    absurd (omega (arith, l))

last-item : (s : Setting) (u : Item) (h : Graph) (st : List Item) (done front : List TermId) (r : TermId) → Comes s [] st u → AllQuote s st (map (value_of h) done) → done ≡ front ++ r ∷ [] → Quotes (heads_of s) s.depth u.under u.term (value_of h r)
last-item s u h [] done front r c w e = absurd c
last-item s u h (x ∷ y ∷ st) done front r c w e = absurd c
last-item s u h (x ∷ []) [] front r c w e = absurd w
last-item s u h (x ∷ []) (d ∷ d' ∷ done) front r c w e = absurd w.1
last-item s u h (x ∷ []) (d ∷ []) front r c w e =
    subst (λ (i : Item). Quotes (heads_of s) s.depth i.under i.term (value_of h r)) c
    (subst (λ (t : TermId). Quotes (heads_of s) s.depth x.under x.term (value_of h t)) (only-item d front r e) w.0)

pub last-quotes : (s : Setting) (u : Item) (h : Graph) (work : List Task) (done front : List TermId) (r : TermId) → work ≡ [] → done ≡ front ++ r ∷ [] → IsQuoting s u h work done → Quotes (heads_of s) s.depth u.under u.term (value_of h r)
last-quotes s u h work done front r n e q = last-item s u h q.stack done front r (subst (λ (ks : List Task). Comes s (reverse ks) q.stack u) n q.comes) q.known e

some-item : (s : Setting) (u : Item) (st : List Item) → Comes s [] st u → AllQuote s st [] → ⊥
some-item s u [] c w = c
some-item s u (x ∷ st) c w = w

pub some-done : (s : Setting) (u : Item) (h : Graph) (work : List Task) (done : List TermId) → work ≡ [] → done ≡ [] → IsQuoting s u h work done → ⊥
some-done s u h work done n e q = some-item s u q.stack (subst (λ (ks : List Task). Comes s (reverse ks) q.stack u) n q.comes) (subst (λ (ds : List TermId). AllQuote s q.stack (map (value_of h) ds)) e q.known)

-- a list taken apart at an item
pub split-at : (xs : List TermId) (i : ℕ) (d : TermId) → i < length xs → xs ≡ take i xs ++ get_or xs i d ∷ drop (i + 1) xs
split-at [] i d h = absurd (omega (arith, h))
split-at (x ∷ xs) zero d h = refl
split-at (x ∷ xs) (suc i) d h =
    ap (λ (ys : List TermId). x ∷ ys) (split-at xs i d (omega (arith, h)))
    ∙ ap (λ k. x ∷ (take i xs ++ get_or xs i d ∷ drop k (x ∷ xs))) (let q : suc (i + 1) ≡ suc i + 1 = omega arith in q)

pub take-count : (xs : List TermId) (i : ℕ) → i < length xs → length (take i xs) ≡ i
take-count [] i h = absurd (omega (arith, h))
take-count (x ∷ xs) zero h = refl
take-count (x ∷ xs) (suc i) h = ap suc (take-count xs i (omega (arith, h)))

-- a visit of a head
pub visit-head : (g h h' : Graph) (ts : List Term) (depth : ℕ) (put : Option TermId) (u : Item) (work : List Task) (done done' : List TermId) (t k : ℕ) (r : TermId) (x : Term) → IsSound h → Grows h h' [] [] → term_at ts t ≡ x → put_head g depth put ≡ put_head h depth put → Quotes (put_head h depth put) depth k x (value_of h' r) → done' ≡ done ++ r ∷ [] →
    IsQuoting (set_for g ts depth put) u h (work ++ Visit t k ∷ []) done → IsQuoting (set_for g ts depth put) u h' work done'
visit-head g h h' ts depth put u work done done' t k r x sound gr e same m e' q =
    visit-done (set_for g ts depth put) u h h' work done done' t k r sound gr
    (subst (λ (f : Head → Term). Quotes f depth k (term_at ts t) (value_of h' r)) (sym same) (subst (λ (y : Term). Quotes (put_head h depth put) depth k y (value_of h' r)) (sym e) m)) e' q

-- the parts of a cell are there
pub body-there : (ts : List Term) (t b : ℕ) (c : Cell) → t < length ts → HasParts t c → c ≡ cell.Lam b → b < length ts
body-there ts t b c h w e = let k : b < t = subst (HasParts t) e w in omega (arith, h, k)

pub front-there : (ts : List Term) (t f a : ℕ) (c : Cell) → t < length ts → HasParts t c → c ≡ cell.App f a → f < length ts
front-there ts t f a c h w e = let k : f < t = (subst (HasParts t) e w).0 in omega (arith, h, k)

pub last-there : (ts : List Term) (t f a : ℕ) (c : Cell) → t < length ts → HasParts t c → c ≡ cell.App f a → a < length ts
last-there ts t f a c h w e = let k : a < t = (subst (HasParts t) e w).1 in omega (arith, h, k)

pub front-older : (t f a : ℕ) (c : Cell) → HasParts t c → c ≡ cell.App f a → f < t
front-older t f a c w e = (subst (HasParts t) e w).0

pub no_abstraction : (ts : List Term) (c : Cell) → ((b : ℕ) → c ≡ cell.Lam b → ⊥) → IsAbstraction (cell_term ts c) → ⊥
no_abstraction ts (cell.Lam b) w a = w b refl
no_abstraction ts (cell.Rigid h) w a = a
no_abstraction ts (cell.Bound i) w a = a
no_abstraction ts (cell.Var v) w a = a
no_abstraction ts (cell.App f b) w a = a
