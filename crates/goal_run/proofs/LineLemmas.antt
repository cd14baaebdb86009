-- Lines of an answer.
use Rattle.std.proofs.Common.{◌≡◌, ℕ, zero, suc, ◌+◌, ◌<◌, ◌≤◌, ◌++◌, Bool, true, false, cond, List, [], ◌∷◌, length, drop, get_or, refl, sym, ap, ◌∙◌, arith, subst, append_assoc, append-nil}
use Rattle.level_terms.specs.declared.node.TermId.{TermId}
use Rattle.level_terms.specs.Graph.{Graph}
use Rattle.level_terms.specs.Reading.{read}
use Rattle.beta_fragment.specs.HeadForm.{all_read}
use Rattle.beta_fragment.specs.Names.{names}
use Rattle.ref_terms.specs.terms.Term.{Term}
use Rattle.ref_terms.specs.texts.Text.{Part, Bytes}
use Rattle.ref_terms.specs.texts.Numbering.{numbered}
use Rattle.lp_resolve.specs.declared.query.QueryVar.{QueryVar}
use Rattle.term_print.specs.Written.{seen_after, Page, Prints}
use Rattle.term_print.specs.Pieces.{page}
use Rattle.term_print.proofs.WrittenLemmas.{prints-none, prints-trans}
use Rattle.term_print.proofs.SequentLemmas.{printed-is, prints-before, bytes-then}
use Rattle.goal_run.specs.inside.Lines.{lines_of, value_line}

-- a line: two spaces, a name, an equals sign, a term, a line feed
pub value-written : (t0 t1 t2 t3 t4 t5 seen seen' name : List ℕ) (ps : List Part) → t1 ≡ t0 ++ 32 ∷ 32 ∷ [] → t2 ≡ t1 ++ name → t3 ≡ t2 ++ 32 ∷ 61 ∷ 32 ∷ []
    → t4 ≡ t3 ++ numbered seen ps → seen' ≡ seen_after seen ps → t5 ≡ t4 ++ 10 ∷ []
    → Prints (page t0 seen) (Bytes (32 ∷ 32 ∷ []) ∷ Bytes (name ++ 32 ∷ 61 ∷ 32 ∷ []) ∷ (ps ++ Bytes (10 ∷ []) ∷ [])) (page t5 seen') []
value-written t0 t1 t2 t3 t4 t5 seen seen' name ps a b c d e f =
    let line : List Part = Bytes (10 ∷ []) ∷ [] in
    let term : Prints (page t3 seen) (ps ++ line) (page t4 seen') line = prints-before (page t3 seen) (page t4 seen') ps line (printed-is t3 seen t4 seen' ps d e) in
    let feed : Prints (page t4 seen') line (page t5 seen') [] = bytes-then t4 t5 seen' (10 ∷ []) (page t5 seen') [] [] f (prints-none (page t5 seen') []) in
    let both : Prints (page t3 seen) (ps ++ line) (page t5 seen') [] = prints-trans (page t3 seen) (page t4 seen') (page t5 seen') (ps ++ line) line [] term feed in
    let front : t3 ≡ t1 ++ (name ++ 32 ∷ 61 ∷ 32 ∷ []) = c ∙ ap (λ (t : List ℕ). t ++ 32 ∷ 61 ∷ 32 ∷ []) b ∙ append_assoc t1 name (32 ∷ 61 ∷ 32 ∷ []) in
    bytes-then t0 t1 seen (32 ∷ 32 ∷ []) (page t5 seen') (Bytes (name ++ 32 ∷ 61 ∷ 32 ∷ []) ∷ (ps ++ line)) [] a
    (bytes-then t1 t3 seen (name ++ 32 ∷ 61 ∷ 32 ∷ []) (page t5 seen') (ps ++ line) [] front both)

-- the lines of one variable, and then those of the others
pub lines-first : (table : List (List ℕ)) (v : QueryVar) (vs : List QueryVar) (t : Term) (ts : List Term) → lines_of table (v ∷ vs) (t ∷ ts) ≡ lines_of table (v ∷ []) (t ∷ []) ++ lines_of table vs ts
lines-first table v vs t ts = by v.shown
  where
    line : List Part
    line = value_line table v.name.0 t

    later : List Part
    later = lines_of table vs ts

    by : (b : Bool) → cond b (line ++ later) later ≡ cond b (line ++ []) [] ++ later
    by true = ap (λ (ps : List Part). ps ++ later) (sym (append-nil line))
    by false = refl

-- without terms there are no lines
pub no-terms : (table : List (List ℕ)) (vs : List QueryVar) (ts : List Term) → ts ≡ [] → lines_of table vs ts ≡ []
no-terms table [] ts e = refl
no-terms table (v ∷ vs) ts e = ap (λ (xs : List Term). lines_of table (v ∷ vs) xs) e

pub drop-next : {A : Type 0} (xs : List A) (i : ℕ) (d : A) → i < length xs → drop i xs ≡ get_or xs i d ∷ drop (i + 1) xs
drop-next [] i d l = absurd (omega (arith, l))
drop-next (x ∷ xs) zero d l = refl
drop-next (x ∷ xs) (suc i) d l = drop-next xs i d (omega (arith, l)) ∙ ap (λ (k : ℕ). get_or xs i d ∷ drop k (x ∷ xs)) (let e : suc (i + 1) ≡ suc i + 1 = omega arith in e)

pub drop-past : {A : Type 0} (xs : List A) (i : ℕ) → length xs ≤ i → drop i xs ≡ []
drop-past [] zero l = refl
drop-past [] (suc i) l = refl
drop-past (x ∷ xs) zero l = absurd (omega (arith, l))
drop-past (x ∷ xs) (suc i) l = drop-past xs i (omega (arith, l))

-- the line of the next variable is written
module _ (table : List (List ℕ)) (g : Graph) (vs : List QueryVar) (q : List TermId) (i : ℕ) (d : QueryVar) (e : TermId) (low : i < length vs) (lower : i < length q) where
  pub next-line : (old now new : Page) (ps : List Part) → Prints old ps now (lines_of table (drop i vs) (all_read g (drop i q)))
      → Prints now (lines_of table (get_or vs i d ∷ []) (read g (get_or q i e).index names ∷ [])) new []
      → Prints old ps new (lines_of table (drop (i + 1) vs) (all_read g (drop (i + 1) q)))
  next-line old now new ps a b =
      let v = get_or vs i d in
      let t = read g (get_or q i e).index names in
      let one = lines_of table (v ∷ []) (t ∷ []) in
      let later = lines_of table (drop (i + 1) vs) (all_read g (drop (i + 1) q)) in
      let split : lines_of table (drop i vs) (all_read g (drop i q)) ≡ one ++ later =
      ap (λ (xs : List QueryVar). lines_of table xs (all_read g (drop i q))) (drop-next vs i d low)
      ∙ ap (λ (xs : List TermId). lines_of table (v ∷ drop (i + 1) vs) (all_read g xs)) (drop-next q i e lower)
      ∙ lines-first table v (drop (i + 1) vs) t (all_read g (drop (i + 1) q)) in
      prints-trans old now new ps (one ++ later) later (subst (λ (rest : List Part). Prints old ps now rest) split a) (prints-before now new one later b)
