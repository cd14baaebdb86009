-- Terms applied to an argument.
use Rattle.std.proofs.Common.{◌≡◌, ℕ, ◌++◌, true, false, List, [], ◌∷◌, length, Option, Some, None, refl, sym, ap, ◌∙◌, subst, IfSome}
use Rattle.level_terms.specs.declared.node.Node.TheVariants.{Lam, App}
use Rattle.level_terms.specs.declared.node.TermId.{TermId}
use Rattle.level_terms.specs.Graph.{Graph, node_at}
use Rattle.level_terms.specs.Reading.{read, enter}
use Rattle.level_terms.specs.Sound.{IsSound, AllOlder}
use Rattle.level_terms.specs.Valid.{IsValid}
use Rattle.level_terms.proofs.NodeLemmas.{nodes_read}
use Rattle.ref_terms.specs.terms.Term as term
use Rattle.ref_terms.specs.terms.Term.{Term, At, Bound}
use Rattle.ref_terms.specs.terms.Index.{shift}
use Rattle.ref_terms.specs.terms.Apply.{apply}
use Rattle.ref_terms.specs.terms.Built.{IsBuilt, IsStuck}
use Rattle.ref_terms.specs.terms.Eta.{lam, lam_of, eta}
use Rattle.ref_terms.specs.lemmas.EtaLemmas.{eta-some}
use Rattle.ref_terms.specs.lemmas.ReadyFacts.{ready-bound}
use Rattle.ref_terms.specs.unification.Shape as shape
use Rattle.ref_terms.specs.unification.Shape.{shape}
use Rattle.ref_terms.specs.search.BranchMove.{applied_whole}
use Rattle.beta_fragment.specs.Body.{IsLam, body_reads, opened_reads}
use Rattle.beta_fragment.specs.HeadForm.{IsHeadForm, IsAbstraction, ReadsAsLam}
use Rattle.level_terms.specs.Values.{value_of, IsAppOf}
use Rattle.beta_fragment.specs.Names.{names}
use Rattle.beta_fragment.specs.declared.answer.Whnf.{Whnf}
use Rattle.beta_fragment.proofs.EnterLemmas.{names-places}
use Rattle.level_terms.proofs.MakeLemmas.{and_both, app-made, app-flattened, parts-there, older-append}
use Rattle.level_terms.proofs.ReadLemmas.{read-built, valid-below}
use Rattle.goal_form.specs.Forms.{form_shape}
use Rattle.goal_form.proofs.FormLemmas.{form-shape}

-- an abstraction that stays one isn't contracted
stuck-shift : (u : Term) → IsAbstraction u → IsStuck (shift u) (At (Bound 0)) → ⊥
stuck-shift (term.Lam b) w s = let k : true ≡ false = sym (ready-bound 0) ∙ s in cc
stuck-shift (At h) w s = w
stuck-shift (term.App f a) w s = w

kept : (b : Term) (o : Option Term) → IfSome o (λ u. b ≡ term.App (shift u) (At (Bound 0))) → IsBuilt b → IsAbstraction (lam_of o b) → lam_of o b ≡ term.Lam b
kept b None e built w = refl
kept b (Some u) e built w = let s : IsBuilt (term.App (shift u) (At (Bound 0))) = subst IsBuilt e built in absurd (stuck-shift u w s.2)

lam-stays : (b : Term) → IsBuilt b → IsAbstraction (lam b) → lam b ≡ term.Lam b
lam-stays b built w = kept b (eta b) (eta-some b) built w

is-lam : (g : Graph) (t : TermId) → IsLam (node_at g.nodes t.index) → (d : ℕ) × (b : TermId) × (node_at g.nodes t.index ≡ Some (Lam d b))
is-lam g t w = go (node_at g.nodes t.index) refl w
  where
    go : (n : Option _) → node_at g.nodes t.index ≡ n → IsLam n → (d : ℕ) × (b : TermId) × (node_at g.nodes t.index ≡ Some (Lam d b))
    go (Some (Lam d b)) e w = (d, b, e)
    go (Some _) e w = absurd w
    go None e w = absurd w

-- an abstraction takes its argument whole
pub lam-whole : (g : Graph) (t : TermId) (depth : ℕ) (a r : Term) → IsSound g → ReadsAsLam g t.index depth → ((d : ℕ) (body : TermId) → node_at g.nodes t.index ≡ Some (Lam d body) → r ≡ opened_reads g d body.index a) → r ≡ applied_whole (read g t.index names) a
lam-whole g t depth a r sound w f =
    let n = is-lam g t w.node in
    let reads : read g t.index names ≡ lam (body_reads g n.0 n.1.index) = nodes_read g t.index (Lam n.0 n.1) names sound names-places n.2 in
    let stays : lam (body_reads g n.0 n.1.index) ≡ term.Lam (body_reads g n.0 n.1.index) = lam-stays (body_reads g n.0 n.1.index) (read-built g n.1.index (enter n.0 names)) (subst IsAbstraction reads w.reads) in
    f n.0 n.1 n.2 ∙ ap (λ (u : Term). applied_whole u a) (sym (reads ∙ stays))

-- any other term is applied
other-whole : (u a : Term) → (shape 0 u ≡ shape.Abstraction → ⊥) → apply u a ≡ applied_whole u a
other-whole (term.Lam b) a n = absurd (n refl)
other-whole (At h) a n = refl
other-whole (term.App f x) a n = refl

pub form-whole : (g : Graph) (depth : ℕ) (u a : Term) (w : Whnf) → IsHeadForm g depth u w → (form_shape g w ≡ shape.Abstraction → ⊥) → apply u a ≡ applied_whole u a
form-whole g depth u a w f n = other-whole u a (λ e. n (sym (form-shape g depth u w f) ∙ e))

pub last-older : (g : Graph) (f a : TermId) (depth : ℕ) → IsSound g → IsValid g a.index depth → (head : TermId) (args : List TermId) → node_at g.nodes f.index ≡ Some (App head args) → AllOlder (length g.nodes) (head ∷ (args ++ a ∷ []))
last-older g f a depth sound v head args e =
    let parts = parts-there g f.index (App head args) sound e in
    (parts.0, older-append (length g.nodes) args (a ∷ []) parts.1 (valid-below g a.index depth v, tt))

-- a node before an argument
module _ (g h : Graph) (f a r : TermId) (depth : ℕ) (sound : IsSound g) (sound' : IsSound h) (f-valid : IsValid g f.index depth) (a-valid : IsValid g a.index depth) (at : r.index ≡ length g.nodes) where
  of-application : IsAppOf (value_of g f) (value_of g a ∷ []) (value_of h r) → (read h r.index names ≡ apply (read g f.index names) (read g a.index names)) × IsValid h r.index depth
  of-application w = (w.term names names-places, w.holds depth f-valid (and_both _ true a-valid refl))

  pub first-made : h ≡ record g { nodes = App f (a ∷ []) ∷ g.nodes } → (read h r.index names ≡ apply (read g f.index names) (read g a.index names)) × IsValid h r.index depth
  first-made made = of-application (app-made g h f (a ∷ []) r sound sound' at made (valid-below g f.index depth f-valid) (valid-below g a.index depth a-valid, tt))

  pub last-made : (head : TermId) (args : List TermId) → node_at g.nodes f.index ≡ Some (App head args) → h ≡ record g { nodes = App head (args ++ a ∷ []) ∷ g.nodes } → (read h r.index names ≡ apply (read g f.index names) (read g a.index names)) × IsValid h r.index depth
  last-made head args e made =
      let older = last-older g f a depth sound a-valid head args e in
      of-application (app-flattened g f head args (a ∷ []) (value_of h r) sound e (app-made g h head (args ++ a ∷ []) r sound sound' at made older.0 older.1))
