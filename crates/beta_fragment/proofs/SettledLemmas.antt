-- Terms that are taken apart at their front.
use Rattle.std.proofs.Common.{◌≡◌, ℕ, ◌<◌, ◌++◌, List, [], ◌∷◌, length, reverse, None, refl, sym, ap, ap₂, ◌∙◌, arith, subst, length-append}
use Rattle.level_terms.specs.declared.node.TermId.{TermId}
use Rattle.level_terms.specs.Graph.{Graph, node_at, value_in}
use Rattle.level_terms.specs.Sound.{IsSound}
use Rattle.level_terms.specs.Valid.{IsValid}
use Rattle.level_terms.specs.Reading.{read}
use Rattle.level_terms.specs.Growth.{Grows}
use Rattle.ref_terms.specs.terms.Term as term
use Rattle.ref_terms.specs.terms.Term.{Term, Head, At}
use Rattle.ref_terms.specs.terms.Apply.{apply, fill}
use Rattle.ref_terms.specs.terms.Built.{IsStuck}
use Rattle.ref_terms.specs.terms.Occurs.{has_name}
use Rattle.ref_terms.specs.terms.Ready.{ready}
use Rattle.ref_terms.specs.unification.Spine.{apply_all}
use Rattle.ref_terms.specs.lemmas.OccursLemmas.{fill_at}
use Rattle.ref_terms.specs.lemmas.NameLemmas.{or_left, or_right}
use Rattle.beta_fragment.specs.declared.answer.RigidHead.{RigidHead}
use Rattle.beta_fragment.specs.Names.{names}
use Rattle.beta_fragment.specs.Body.{IsLam}
use Rattle.beta_fragment.specs.HeadForm.{AllValidAt, all_read, rigid_head, IsAbstraction, ReadsAsLam, FirstUnready}
use Rattle.beta_fragment.specs.Quoted.{AllIndicesBelow, AllHeads, IsOpenHead, put_head}
use Rattle.beta_fragment.specs.inside.Settled.{IsQuotable, IsHeld, IsUnwound}
use Rattle.beta_fragment.proofs.MoveLemmas.{assigned-before}
use Rattle.beta_fragment.proofs.HeadLemmas.{newest-arg, valid-grown_all, read-grown_all}

-- heads in a heap that gained nodes
open-grown : (g h : Graph) → Grows g h [] [] → (k : Head) → IsOpenHead g k → IsOpenHead h k
open-grown g h w (term.Var v) o =
    let more = ap length w.depths ∙ length-append g.depths w.new_depths in
    let known = o.0 in
    (omega (arith, more, known), assigned-before g h w v ∙ o.1)
open-grown g h w (term.Con c) o = tt
open-grown g h w (term.Int c) o = tt
open-grown g h w (term.Str c) o = tt
open-grown g h w (term.Name c) o = tt
open-grown g h w (term.Bound c) o = tt

heads-weaker : (p q : Head → Type 0) → ((k : Head) → p k → q k) → (t : Term) → AllHeads p t → AllHeads q t
heads-weaker p q f (term.Lam b) w = heads-weaker p q f b w
heads-weaker p q f (At (term.Bound i)) w = tt
heads-weaker p q f (At (term.Con c)) w = f (term.Con c) w
heads-weaker p q f (At (term.Int c)) w = f (term.Int c) w
heads-weaker p q f (At (term.Str c)) w = f (term.Str c) w
heads-weaker p q f (At (term.Name c)) w = f (term.Name c) w
heads-weaker p q f (At (term.Var c)) w = f (term.Var c) w
heads-weaker p q f (term.App t a) w = (heads-weaker p q f t w.0, heads-weaker p q f a w.1)

quotable-grown : (g h : Graph) (depth : ℕ) (t : Term) → Grows g h [] [] → IsQuotable g depth t → IsQuotable h depth t
quotable-grown g h depth t w k = record {
  built = k.built;
  closed = k.closed;
  low = k.low;
  variables = heads-weaker (IsOpenHead g) (IsOpenHead h) (open-grown g h w) t k.variables;
}

-- the parts of an application
pub quotable-head : (g : Graph) (depth : ℕ) (f a : Term) → IsQuotable g depth (term.App f a) → IsQuotable g depth f
quotable-head g depth f a k = record {
  built = k.built.0;
  closed = k.closed.0;
  low = λ n l. or_left _ _ (k.low n l);
  variables = k.variables.0;
}

pub quotable-arg : (g : Graph) (depth : ℕ) (f a : Term) → IsQuotable g depth (term.App f a) → IsQuotable g depth a
quotable-arg g depth f a k = record {
  built = k.built.1;
  closed = k.closed.1;
  low = λ n l. or_right (has_name n f) _ (k.low n l);
  variables = k.variables.1;
}

-- what is quoted without a node in the place of a name reads as the term
pub quoted-reads : (g h : Graph) (depth : ℕ) (t u : Term) → IsQuotable g depth t → u ≡ fill (put_head h depth None) t → u ≡ t
quoted-reads g h depth t u k e = e ∙ fill_at t k.built

apply-held : (f a : Term) → IsStuck f a → apply f a ≡ term.App f a
apply-held (term.Lam b) a h = rw h refl
apply-held (At k) a h = refl
apply-held (term.App f b) a h = refl

-- before no argument
pub unwound-first : (g : Graph) (depth : ℕ) (u : Term) (args : List TermId) → IsQuotable g depth u → args ≡ [] → IsUnwound g depth u u args
unwound-first g depth u args k e = subst (IsUnwound g depth u u) (sym e) (record {
  reads = refl;
  valid = tt;
  held = tt;
  quotable = k;
})

-- an argument is quoted
pub unwound-next : (g h : Graph) (depth : ℕ) (u x f a : Term) (args args' : List TermId) (r : TermId) → IsSound g → Grows g h [] [] → IsUnwound g depth u x args → x ≡ term.App f a → args' ≡ args ++ r ∷ [] →
    read h r.index names ≡ fill (put_head g depth None) a → IsValid h r.index depth → IsUnwound h depth u f args'
unwound-next g h depth u x f a args args' r s w k e long reads valid =
    let whole : IsQuotable g depth (term.App f a) = subst (IsQuotable g depth) e k.quotable in
    let same : read h r.index names ≡ a = quoted-reads g g depth a (read h r.index names) (quotable-arg g depth f a whole) reads in
    let order : reverse args' ≡ r ∷ reverse args = ap reverse long ∙ newest-arg args r in
    let kept : all_read h (reverse args) ≡ all_read g (reverse args) = read-grown_all g h depth s w (reverse args) k.valid in
    let all : all_read h (reverse args') ≡ a ∷ all_read g (reverse args) = ap (all_read h) order ∙ ap₂ (λ (y : Term) (ys : List Term). y ∷ ys) same kept in
    record {
      reads = k.reads ∙ ap (λ z. apply_all z (all_read g (reverse args))) (e ∙ sym (apply-held f a whole.built.2)) ∙ ap (apply_all f) (sym all);
      valid = subst (λ ts. AllValidAt h ts depth) (sym order) (valid, valid-grown_all g h depth s w (reverse args) k.valid);
      held = subst (IsHeld f) (sym all) whole.built.2;
      quotable = quotable-grown g h depth f w (quotable-head g depth f a whole);
    }

-- the forms
pub rigid-form : (g : Graph) (depth : ℕ) (u x : Term) (args list : List TermId) (k : RigidHead) → IsUnwound g depth u x args → x ≡ At (rigid_head k) → list ≡ reverse args → AllValidAt g list depth × (u ≡ apply_all (At (rigid_head k)) (all_read g list))
rigid-form g depth u x args list k w e l = (
  subst (λ ts. AllValidAt g ts depth) (sym l) w.valid,
  w.reads ∙ ap₂ apply_all e (ap (all_read g) (sym l)),
)

pub flex-form : (g : Graph) (depth : ℕ) (u x : Term) (args list : List TermId) (v : ℕ) → IsUnwound g depth u x args → x ≡ At (term.Var v) → list ≡ reverse args →
    (v < length g.depths) × (value_in g.assigned v ≡ None) × AllValidAt g list depth × (u ≡ apply_all (At (term.Var v)) (all_read g list))
flex-form g depth u x args list v w e l =
    let heads = subst (AllHeads (IsOpenHead g)) e w.quotable.variables in (
      heads.0,
      heads.1,
      subst (λ ts. AllValidAt g ts depth) (sym l) w.valid,
      w.reads ∙ ap₂ apply_all e (ap (all_read g) (sym l)),
    )

pub no-index : (g : Graph) (depth : ℕ) (x : Term) (i : ℕ) → IsQuotable g depth x → x ≡ At (term.Bound i) → ⊥
no-index g depth x i k e = let low : i < 0 = subst (AllIndicesBelow 0) e k.closed in omega (arith, low)

pub lam-read : (g h : Graph) (depth : ℕ) (x : Term) (r : TermId) → IsQuotable g depth x → IsAbstraction x → read h r.index names ≡ fill (put_head g depth None) x → IsValid h r.index depth → IsLam (node_at h.nodes r.index) → ReadsAsLam h r.index depth
lam-read g h depth x r k w reads valid node = record {
  node = node;
  valid = valid;
  reads = subst IsAbstraction (sym (quoted-reads g g depth x (read h r.index names) k reads)) w;
}

pub lam-form : (g h : Graph) (depth : ℕ) (u x : Term) (args : List TermId) (r : TermId) → IsUnwound g depth u x args → IsAbstraction x → read h r.index names ≡ fill (put_head g depth None) x → IsValid h r.index depth → IsLam (node_at h.nodes r.index) → args ≡ [] →
    ReadsAsLam h r.index depth × (u ≡ read h r.index names)
lam-form g h depth u x args r k w reads valid node e = (
  lam-read g h depth x r k.quotable w reads valid node,
  k.reads ∙ ap (λ (ts : List TermId). apply_all x (all_read g (reverse ts))) e ∙ sym (quoted-reads g g depth x (read h r.index names) k.quotable reads),
)

first-held : (g h : Graph) (depth : ℕ) (x : Term) (ts : List TermId) → IsAbstraction x → IsHeld x (all_read g ts) → all_read h ts ≡ all_read g ts → 0 < length ts → FirstUnready h ts
first-held g h depth (term.Lam b) [] w k e l = absurd (omega (arith, l))
first-held g h depth (term.Lam b) (a ∷ ts) w k e l =
    let same : read h a.index names ≡ read g a.index names = (let q : read h a.index names ∷ all_read h ts ≡ read g a.index names ∷ all_read g ts = e in cc) in
    ap ready same ∙ k
first-held g h depth (At k) ts w held e l = absurd w
first-held g h depth (term.App f a) ts w held e l = absurd w

pub redex-form : (g h : Graph) (depth : ℕ) (u x : Term) (args list : List TermId) (r : TermId) → IsSound g → Grows g h [] [] → IsUnwound g depth u x args → IsAbstraction x → read h r.index names ≡ fill (put_head g depth None) x → IsValid h r.index depth → IsLam (node_at h.nodes r.index) →
    list ≡ reverse args → 0 < length (reverse args) → ReadsAsLam h r.index depth × FirstUnready h list × AllValidAt h list depth × (u ≡ apply_all (read h r.index names) (all_read h list))
redex-form g h depth u x args list r s grows k w reads valid node l some =
    let kept : all_read h (reverse args) ≡ all_read g (reverse args) = read-grown_all g h depth s grows (reverse args) k.valid in (
      lam-read g h depth x r k.quotable w reads valid node,
      subst (FirstUnready h) (sym l) (first-held g h depth x (reverse args) w k.held kept some),
      subst (λ ts. AllValidAt h ts depth) (sym l) (valid-grown_all g h depth s grows (reverse args) k.valid),
      k.reads ∙ ap₂ apply_all (sym (quoted-reads g g depth x (read h r.index names) k.quotable reads)) (sym (ap (all_read h) l ∙ kept)),
    )
