-- Bodies with a name for their own.
use Rattle.std.proofs.Common.{◌≡◌, ℕ, suc, ◌<◌, ◌≤◌, ◌++◌, List, [], ◌∷◌, length, slice_index, cond, nat_eq, Bool, true, false, Some, refl, sym, ap, ap₂, ◌∙◌, arith, subst, eqb-true, length-append}
use mathlib.Core.Path.{fun_ext}
use Rattle.std.proofs.lemmas.List.{get_or_append_left}
use Rattle.std.proofs.Math.Seq.{get_or-append_seam}
use Rattle.level_terms.specs.declared.node.Node.TheVariants.{Lam}
use Rattle.level_terms.specs.declared.node.TermId.{TermId}
use Rattle.level_terms.specs.Graph.{Graph, node_at}
use Rattle.level_terms.specs.Sound.{IsSound}
use Rattle.level_terms.specs.Valid.{IsValid}
use Rattle.level_terms.specs.Reading.{read, enter}
use Rattle.level_terms.proofs.LocalLemmas.{readings_local, step_down}
use Rattle.ref_terms.specs.terms.Term.{Term}
use Rattle.ref_terms.specs.terms.Index.{first}
use Rattle.ref_terms.specs.terms.Apply.{open_with}
use Rattle.beta_fragment.specs.Names.{names, renamed}
use Rattle.beta_fragment.specs.Body.{at_name, opened_reads}
use Rattle.level_terms.specs.Values.{Value}
use Rattle.beta_fragment.specs.Moves.{Moves, IsMove}
use Rattle.ref_terms.specs.lemmas.ReadyFacts.{ready-name}
use Rattle.ref_terms.proofs.terms.OpeningLemmas.{opening-is-replacing}
use Rattle.level_terms.proofs.ReadLemmas.{read-built, read-follows}
use Rattle.beta_fragment.proofs.EnterLemmas.{entered, first-places}
use Rattle.beta_fragment.proofs.HeadLemmas.{renamed-node, renamed-valid}

pub own-name : (made name : ℕ) → made ≡ name → names ≡ at_name made name
own-name made name e = fun_ext (λ i. go i (nat_eq made i) refl)
  where
    go : (i : ℕ) (b : Bool) → nat_eq made i ≡ b → names i ≡ cond b (names name) (names i)
    go i true q = ap names (sym (eqb-true made i q) ∙ e)
    go i false q = refl

pub own-more : (made name : ℕ) (ls more : List ℕ) → length ls ≡ made → more ≡ ls ++ name ∷ [] → length more ≡ suc made
own-more made name ls more long e = let l = ap length e ∙ length-append ls (name ∷ []) in omega (arith, l, long)

index-low : (made name : ℕ) (ls more : List ℕ) (i : ℕ) → length ls ≡ made → more ≡ ls ++ name ∷ [] → i < made → slice_index more i ≡ slice_index ls i
index-low made name ls more i long e h = ap (λ (zs : List ℕ). slice_index zs i) e ∙ get_or_append_left ls (name ∷ []) 0 i (omega (arith, h, long))

index-last : (made name : ℕ) (ls more : List ℕ) → length ls ≡ made → more ≡ ls ++ name ∷ [] → slice_index more made ≡ name
index-last made name ls more long e = ap₂ (λ (zs : List ℕ) (j : ℕ). slice_index zs j) e (sym long) ∙ get_or-append_seam ls name [] 0

pub opened-move : (made name to : ℕ) (ls more : List ℕ) → length ls ≡ made → ((i : ℕ) → i < made → slice_index ls i ≡ i) → more ≡ ls ++ name ∷ [] → name < to → made ≤ to → IsMove more made to
opened-move made name to ls more long own e low deep = record {
  below = λ i h. go i (nat_eq made i) refl (let l = own-more made name ls more long e in omega (arith, h, l));
  few = (let l = own-more made name ls more long e in omega (arith, l));
  low = deep;
  stay = λ i h. index-low made name ls more i long e h ∙ own i h;
}
  where
    go : (i : ℕ) (b : Bool) → nat_eq made i ≡ b → i < suc made → slice_index more i < to
    go i true q h = subst (λ k. k < to) (sym (ap (slice_index more) (sym (eqb-true made i q)) ∙ index-last made name ls more long e)) low
    go i false q h = let lt = step_down made i q h in subst (λ k. k < to) (sym (index-low made name ls more i long e lt ∙ own i lt)) (omega (arith, lt, deep))

pub opened-node : (g : Graph) (made name to body : ℕ) (ls more : List ℕ) (x : Value) → length ls ≡ made → ((i : ℕ) → i < made → slice_index ls i ≡ i) → more ≡ ls ++ name ∷ [] → IsValid g body (suc made) → Moves g more to body (length more) (length more) x →
    x.term names ≡ read g body (at_name made name)
opened-node g made name to body ls more x long own e v m =
    renamed-node g more to body x (subst (IsValid g body) (sym (own-more made name ls more long e)) v) m
    ∙ readings_local g body (suc made) (renamed more) (at_name made name) v (λ i h. go i (nat_eq made i) refl h)
  where
    go : (i : ℕ) (b : Bool) → nat_eq made i ≡ b → i < suc made → renamed more i ≡ cond b (names name) (names i)
    go i true q h = ap names (ap (slice_index more) (sym (eqb-true made i q)) ∙ index-last made name ls more long e)
    go i false q h = let lt = step_down made i q h in ap names (index-low made name ls more i long e lt ∙ own i lt)

pub opened-valid : (g : Graph) (to body : ℕ) (more : List ℕ) (x : Value) → Moves g more to body (length more) (length more) x → x.holds to ≡ true
opened-valid g to body more x m = renamed-valid g more to body x m

-- a body with a ready term for its own name
pub contract-reads : (g : Graph) (t made d : ℕ) (body other : TermId) (k : ℕ) (s : Term) → IsSound g → node_at g.nodes t ≡ Some (Lam made body) → node_at g.nodes t ≡ Some (Lam d other) → s ≡ names k → read g body.index (at_name made k) ≡ opened_reads g d other.index s
contract-reads g t made d body other k s sound e f q =
    let same : Some (Lam made body) ≡ Some (Lam d other) = sym e ∙ f in
    let depths : made ≡ d = cc in
    let bodies : body ≡ other = cc in
    ap (read g body.index) (fun_ext (λ i. sym (entered made (names k) names i)))
    ∙ sym (read-follows g sound body.index (enter made names) (first (names k)) (first-places (names k) tt))
    ∙ sym (opening-is-replacing (read g body.index (enter made names)) (names k) (read-built g body.index (enter made names)) (ready-name k))
    ∙ ap₂ (λ (n : ℕ) (b : TermId). open_with (read g b.index (enter n names)) (names k)) depths bodies
    ∙ ap (open_with (read g other.index (enter d names))) (sym q)

pub same-body : (g : Graph) (t made d : ℕ) (body other : TermId) (s : Term) → node_at g.nodes t ≡ Some (Lam made body) → node_at g.nodes t ≡ Some (Lam d other) → opened_reads g made body.index s ≡ opened_reads g d other.index s
same-body g t made d body other s e f =
    let same : Some (Lam made body) ≡ Some (Lam d other) = sym e ∙ f in
    let depths : made ≡ d = cc in
    let bodies : body ≡ other = cc in
    ap₂ (λ (n : ℕ) (b : TermId). opened_reads g n b.index s) depths bodies
