-- Turns.
use Rattle.std.proofs.Common.{◌≡◌, ℕ, suc, ◌<◌, ◌≤◌, ◌++◌, List, [], ◌∷◌, length, map, take, reverse, slice_index, cond, nat_eq, Bool, true, false, Option, Some, None, IfSome, min, refl, sym, ap, ap₂, ◌∙◌, arith, subst, eqb-true}
use Rattle.level_terms.specs.declared.node.Node.{Node}
use Rattle.level_terms.specs.declared.node.Node.TheVariants.{Lam, App, Var, Level as node_level}
use Rattle.level_terms.specs.declared.node.TermId.{TermId}
use Rattle.level_terms.specs.declared.node.VarId.{VarId}
use Rattle.level_terms.specs.Graph.{Graph, node_at, value_in}
use Rattle.level_terms.specs.Sound.{IsSound}
use Rattle.level_terms.specs.Valid.{IsValid}
use Rattle.level_terms.specs.Reading.{read, node_reads}
use Rattle.level_terms.specs.Growth.{Grows}
use Rattle.level_terms.proofs.LocalLemmas.{readings_local, step_down}
use Rattle.level_terms.proofs.SubLemmas.{at_level}
use Rattle.level_terms.proofs.NodeLemmas.{nodes_read, value-valid}
use Rattle.level_terms.proofs.TreeLemmas.{value_below}
use Rattle.level_terms.proofs.ValidLemmas.{valid_deeper, growth_keeps_valid}
use Rattle.ref_terms.specs.terms.Term as term
use Rattle.ref_terms.specs.terms.Term.{Term, At}
use Rattle.ref_terms.specs.terms.Apply.{apply}
use Rattle.ref_terms.specs.terms.Ready.{ready}
use Rattle.ref_terms.specs.unification.Spine.{apply_all}
use Rattle.beta_fragment.specs.Names.{names, renamed}
use Rattle.beta_fragment.specs.Moves.{IsMove}
use Rattle.beta_fragment.specs.HeadForm.{AllValidAt, all_read, FirstUnready}
use Rattle.beta_fragment.specs.Firm.{IsSpine}
use Rattle.beta_fragment.specs.inside.Turn.{GoesOn, StaysAfter, lower, own_too, NoneReady, IsFirst}
use Rattle.beta_fragment.specs.inside.Spine.{args_in}
use Rattle.beta_fragment.specs.declared.glance.Readiness.TheVariants.{Level, Ready}
use Rattle.std.specs.Option.{option_to_list}
use Rattle.beta_fragment.proofs.SplitLemmas.{empty-list}
use Rattle.level_terms.proofs.ReadLemmas.{valid-below, grown-reads}
use Rattle.beta_fragment.proofs.EnterLemmas.{body-applied, body-valid}
use Rattle.level_terms.proofs.MakeLemmas.{apply_all-append, parts-there}
use Rattle.beta_fragment.proofs.MoveLemmas.{node-before, assigned-before, app-valid}
use Rattle.beta_fragment.proofs.StayLemmas.{var-low}
use Rattle.beta_fragment.proofs.WorkLemmas.{app-size, lam-size}
use Rattle.beta_fragment.proofs.FirmLemmas.{reads-value}
use Rattle.beta_fragment.proofs.HeadLemmas.{renamed-places, take-front, take-next, take-more, lam-within, newest-arg}

pub some-weaker : {A : Type 0} (o : Option A) (P Q : A → Type 0) → ((x : A) → P x → Q x) → IfSome o P → IfSome o Q
some-weaker None P Q f h = tt
some-weaker (Some x) P Q f h = f x h

-- a variable that has a value
pub value-turn : (g : Graph) (depth head value : ℕ) (v : VarId) (ls : List ℕ) (fixed : ℕ) (args : List TermId) → IsSound g → node_at g.nodes head ≡ Some (Var v) → value_in g.assigned v.index ≡ Some value → IsValid g value (slice_index g.depths v.index) → IsValid g head (length ls) → IsMove ls fixed depth → GoesOn depth g g head value ls ls fixed args args
value-turn g depth head value v ls fixed args s e f vv valid m = record {
  spine = λ u k. record {
    reads = k.reads ∙ ap (λ z. apply_all z (all_read g (reverse args))) (reads-value g head value v s e f (renamed ls) (renamed-places ls));
    valid = k.valid;
  };
  moves = m;
  valid = valid_deeper g value (slice_index g.depths v.index) (length ls) vv (var-low g head v (length ls) s e valid);
  less = λ g' sg gr below.
      let here = node-before g' g gr head (Var v) below e in
      let has = sym (assigned-before g' g gr v.index) ∙ f in
      (valid-below g' value (slice_index g'.depths v.index) (value-valid g'.nodes g'.depths g'.assigned sg.valid v.index value has), value_below g' sg head v.index value v refl here has);
}

-- the levels that stay where an abstraction takes a name
stays-after : (made k : ℕ) (ls more : List ℕ) (fixed fixed' depth : ℕ) → IsMove ls fixed depth → made ≤ length ls → k < depth → more ≡ take made ls ++ k ∷ [] → length more ≡ suc made → StaysAfter fixed made k (length more) fixed' →
    (fixed' ≤ length more) × (fixed' ≤ depth) × ((i : ℕ) → i < fixed' → slice_index more i ≡ i)
stays-after made k ls more fixed fixed' depth m within low q long (lower r) = (
  omega (arith, long, r),
  (let l = m.low in omega (arith, l, r)),
  λ i h. ap (λ (zs : List ℕ). slice_index zs i) q ∙ take-front ls (k ∷ []) made i within (omega (arith, h, r)) ∙ m.stay i (omega (arith, h, r)),
)
stays-after made k ls more fixed fixed' depth m within low q long (own_too e f r) = (
  omega (arith, r),
  omega (arith, r, long, e, low),
  λ i h. go i (omega (arith, h, r, long)) (nat_eq made i) refl,
)
  where
    go : (i : ℕ) → i < suc made → (c : Bool) → nat_eq made i ≡ c → slice_index more i ≡ i
    go i h true p = ap₂ (λ (zs : List ℕ) (j : ℕ). slice_index zs j) q (sym (eqb-true made i p)) ∙ take-next ls k made within ∙ e ∙ eqb-true made i p
    go i h false p =
        let lt = step_down made i p h in
        ap (λ (zs : List ℕ). slice_index zs i) q ∙ take-front ls (k ∷ []) made i within lt ∙ m.stay i (omega (arith, lt, f))

-- an abstraction takes a name
pub lam-turn : (g : Graph) (depth head made : ℕ) (body : TermId) (k : ℕ) (a : TermId) (ls more : List ℕ) (fixed fixed' : ℕ) (args args' : List TermId) → IsSound g → node_at g.nodes head ≡ Some (Lam made body) → IsValid g head (length ls) → IsMove ls fixed depth →
    args ≡ args' ++ a ∷ [] → read g a.index names ≡ names k → k < depth → more ≡ take made ls ++ k ∷ [] → StaysAfter fixed made k (length more) fixed' → GoesOn depth g g head body.index ls more fixed' args args'
lam-turn g depth head made body k a ls more fixed fixed' args args' s e valid m split name low q r =
    let within = lam-within g head made body (length ls) s e valid in
    let long : length more ≡ suc made = ap length q ∙ take-more ls k made within in
    let order : reverse args ≡ a ∷ reverse args' = ap reverse split ∙ newest-arg args' a in
    let stays = stays-after made k ls more fixed fixed' depth m within low q long r in
    record {
      spine = λ u w. record {
        reads = w.reads
            ∙ ap (λ zs. apply_all (read g head (renamed ls)) (all_read g zs)) order
            ∙ ap (λ z. apply_all z (all_read g (reverse args')))
            (ap (apply (read g head (renamed ls))) name
            ∙ body-applied g s head made body e (renamed ls) (renamed-places ls) (names k) tt
            ∙ readings_local g body.index (suc made) (at_level made (names k) (renamed ls)) (renamed more) (body-valid g s head made body (length ls) e valid) (same within));
        valid = (subst (λ zs. AllValidAt g zs depth) order w.valid).1;
      };
      moves = record {
        below = λ i h. go_below i (omega (arith, h, long)) within;
        few = stays.0;
        low = stays.1;
        stay = stays.2;
      };
      valid = subst (IsValid g body.index) (sym long) (body-valid g s head made body (length ls) e valid);
      less = λ g' sg gr below.
          let here = node-before g' g gr head (Lam made body) below e in
          ((parts-there g' head (Lam made body) sg here).0, lam-size g' head made body sg here);
    }
  where
    same : made ≤ length ls → (i : ℕ) → i < suc made → at_level made (names k) (renamed ls) i ≡ renamed more i
    same within i h = go (nat_eq made i) refl
      where
        go : (c : Bool) → nat_eq made i ≡ c → cond c (names k) (renamed ls i) ≡ renamed more i
        go true p = sym (ap names (ap₂ (λ (zs : List ℕ) (j : ℕ). slice_index zs j) q (sym (eqb-true made i p)) ∙ take-next ls k made within))
        go false p = sym (ap names (ap (λ (zs : List ℕ). slice_index zs i) q ∙ take-front ls (k ∷ []) made i within (step_down made i p h)))

    go_below : (i : ℕ) → i < suc made → made ≤ length ls → slice_index more i < depth
    go_below i h within = go (nat_eq made i) refl
      where
        go : (c : Bool) → nat_eq made i ≡ c → slice_index more i < depth
        go true p = subst (λ z. z < depth) (sym (ap₂ (λ (zs : List ℕ) (j : ℕ). slice_index zs j) q (sym (eqb-true made i p)) ∙ take-next ls k made within)) low
        go false p =
            let lt = step_down made i p h in
            subst (λ z. z < depth) (sym (ap (λ (zs : List ℕ). slice_index zs i) q ∙ take-front ls (k ∷ []) made i within lt)) (m.below i (omega (arith, lt, within)))

-- an application
pub app-turn : (g h : Graph) (depth head : ℕ) (inner : TermId) (ts : List TermId) (ls : List ℕ) (fixed : ℕ) (args args' : List TermId) → IsSound g → Grows g h [] [] → node_at g.nodes head ≡ Some (App inner ts) → IsValid g head (length ls) → IsMove ls fixed depth →
    all_read h (reverse args') ≡ map (λ a. read g a.index (renamed ls)) ts ++ all_read g (reverse args) → AllValidAt h (reverse args') depth → GoesOn depth g h head inner.index ls ls fixed args args'
app-turn g h depth head inner ts ls fixed args args' s w e valid m reads valids =
    let inside = (app-valid g head (length ls) inner ts s e valid).0 in
    let there = valid-below g inner.index (length ls) inside in
    record {
      spine = λ u k. record {
        reads = k.reads
            ∙ ap (λ z. apply_all z (all_read g (reverse args))) (nodes_read g head (App inner ts) (renamed ls) s (renamed-places ls) e)
            ∙ sym (apply_all-append (map (λ a. read g a.index (renamed ls)) ts) (all_read g (reverse args)) (read g inner.index (renamed ls)))
            ∙ ap₂ apply_all (ap (λ r. r (renamed ls)) (sym (grown-reads g h s w inner.index there))) (sym reads);
        valid = valids;
      };
      moves = m;
      valid = growth_keeps_valid g h [] [] inner.index (length ls) s w there inside;
      less = λ g' sg gr below.
          let here = node-before g' g gr head (App inner ts) below e in
          let size = app-size g' head inner ts sg here in
          ((parts-there g' head (App inner ts) sg here).0, omega (arith, size));
    }

-- an abstraction stays at the head
pub unready-first : (g h : Graph) (depth : ℕ) (args : List TermId) → IsSound g → Grows g h [] [] → AllValidAt g args depth → (0 < length args) → NoneReady g args → FirstUnready h args
unready-first g h depth [] s w v l n = omega (arith, l)
unready-first g h depth (a ∷ args) s w v l n = ap (λ r. ready (r names)) (grown-reads g h s w a.index (valid-below g a.index depth v.0)) ∙ n

-- the last of a list that isn't empty
pub pop-split : (g : Graph) (depth k : ℕ) (items items' : List TermId) (o : Option TermId) → items ≡ items' ++ option_to_list o → (o ≡ None → length items ≡ 0) → IsFirst g depth (reverse items) (Level k) → (a : TermId) × (items ≡ items' ++ a ∷ []) × (read g a.index names ≡ names k) × (k < depth)
pop-split g depth k items items' None e z f = absurd (subst (λ ts. IsFirst g depth (reverse ts) (Level k)) (empty-list items (z refl)) f)
pop-split g depth k items items' (Some a) e z f =
    let order : reverse items ≡ a ∷ reverse items' = ap reverse e ∙ newest-arg items' a in
    let first = subst (λ ts. IsFirst g depth ts (Level k)) order f in
    (a, e, first.0, first.1)

pub pop-ready : (g : Graph) (depth : ℕ) (r : TermId) (items items' : List TermId) (o : Option TermId) → items ≡ items' ++ option_to_list o → (o ≡ None → length items ≡ 0) → IsFirst g depth (reverse items) (Ready r) → (a : TermId) × (items ≡ items' ++ a ∷ []) × (read g a.index names ≡ read g r.index names) × IsValid g r.index depth × (ready (read g r.index names) ≡ true)
pop-ready g depth r items items' None e z f = absurd (subst (λ ts. IsFirst g depth (reverse ts) (Ready r)) (empty-list items (z refl)) f)
pop-ready g depth r items items' (Some a) e z f =
    let order : reverse items ≡ a ∷ reverse items' = ap reverse e ∙ newest-arg items' a in
    let first = subst (λ ts. IsFirst g depth ts (Ready r)) order f in
    (a, e, first.0, first.1, ap ready (sym first.0) ∙ first.2)

-- a level's name
pub level-reads : (g : Graph) (t l n : ℕ) (ls : List ℕ) → IsSound g → node_at g.nodes t ≡ Some (node_level l) → IsValid g t (length ls) → n ≡ slice_index ls l → read g t (renamed ls) ≡ names n
level-reads g t l n ls s e v q = nodes_read g t (node_level l) (renamed ls) s (renamed-places ls) e ∙ ap names (sym q)

pub leaf-reads : (g : Graph) (t : ℕ) (n : Node) (ls : List ℕ) (h : term.Head) → IsSound g → node_at g.nodes t ≡ Some n → node_reads g n (renamed ls) ≡ At h → read g t (renamed ls) ≡ At h
leaf-reads g t n ls h s e q = nodes_read g t n (renamed ls) s (renamed-places ls) e ∙ q

-- the arguments of an application
pub args-valid : (g : Graph) (t s : ℕ) (k : TermId) (ts : List TermId) → IsSound g → node_at g.nodes t ≡ Some (App k ts) → IsValid g t s → AllValidAt g (args_in (node_at g.nodes t)) s
args-valid g t s k ts sound e v = subst (λ o. AllValidAt g (args_in o) s) (sym e) (app-valid g t s k ts sound e v).1

pub app-turn-at : (g h : Graph) (depth head : ℕ) (inner : TermId) (ts : List TermId) (ls : List ℕ) (fixed : ℕ) (args args' : List TermId) → IsSound g → Grows g h [] [] → node_at g.nodes head ≡ Some (App inner ts) → IsValid g head (length ls) → IsMove ls fixed depth →
    all_read h (reverse args') ≡ map (λ a. read g a.index (renamed ls)) (args_in (node_at g.nodes head)) ++ all_read g (reverse args) → AllValidAt h (reverse args') depth → GoesOn depth g h head inner.index ls ls fixed args args'
app-turn-at g h depth head inner ts ls fixed args args' s w e valid m reads valids =
    app-turn g h depth head inner ts ls fixed args args' s w e valid m
    (reads ∙ ap (λ (us : List TermId). map (λ a. read g a.index (renamed ls)) us ++ all_read g (reverse args)) (ap args_in e)) valids

-- at first the levels are their own names
pub first-spine : (g : Graph) (depth t : ℕ) (ls : List ℕ) (args : List TermId) → IsValid g t depth → ((i : ℕ) → i < depth → slice_index ls i ≡ i) → args ≡ [] → IsSpine g depth (read g t names) t ls args
first-spine g depth t ls args v own e = record {
  reads = readings_local g t depth names (renamed ls) v (λ i h. ap names (sym (own i h))) ∙ ap (λ zs. apply_all (read g t (renamed ls)) (all_read g (reverse zs))) (sym e);
  valid = subst (λ zs. AllValidAt g (reverse zs) depth) (sym e) tt;
}

pub first-moves : (depth : ℕ) (ls : List ℕ) → length ls ≡ depth → ((i : ℕ) → i < depth → slice_index ls i ≡ i) → IsMove ls depth depth
first-moves depth ls long own = record {
  below = λ i h. (let lt : i < depth = omega (arith, h, long) in subst (λ k. k < depth) (sym (own i lt)) lt);
  few = omega (arith, long);
  low = omega arith;
  stay = own;
}
