-- Names that stand for ready terms.
use Rattle.std.proofs.Common.{◌≡◌, ◌||◌, nat_lt, ℕ, zero, suc, ◌<◌, ◌≤◌, ◌+◌, ◌-◌, ◌++◌, List, [], ◌∷◌, length, map, take, reverse, slice_index, cond, nat_eq, Bool, true, false, Some, min, get_or, refl, sym, ap, ap₂, ◌∙◌, arith, subst, eqb-true, eq-eqb, length-append}
use Rattle.std.proofs.lemmas.List.{reverse-reverse, map-append, length-reverse}
use Rattle.level_terms.specs.declared.node.Node.TheVariants.{Lam}
use Rattle.level_terms.specs.declared.node.TermId.{TermId}
use Rattle.level_terms.specs.Graph.{Graph, node_at}
use Rattle.level_terms.specs.Sound.{IsSound}
use Rattle.level_terms.specs.Valid.{IsValid}
use Rattle.level_terms.specs.Reading.{read}
use Rattle.level_terms.specs.Growth.{Grows}
use Rattle.level_terms.proofs.LocalLemmas.{readings_local, step_down}
use Rattle.level_terms.proofs.SubLemmas.{at_level}
use Rattle.level_terms.proofs.ValidLemmas.{valid_deeper, growth_keeps_valid}
use Rattle.ref_terms.specs.terms.Term as term
use Rattle.ref_terms.specs.terms.Term.{Term, Head, At}
use Rattle.ref_terms.specs.terms.Apply.{apply, fill}
use Rattle.ref_terms.specs.terms.Built.{IsBuilt}
use Rattle.ref_terms.specs.terms.Occurs.{is_name, has_name}
use Rattle.ref_terms.specs.terms.Ready.{ready}
use Rattle.ref_terms.specs.unification.Spine.{apply_all}
use Rattle.ref_terms.specs.laws.TermLaws.{AllBuilt, KeepsReady}
use Rattle.ref_terms.specs.lemmas.ComposeLemmas.{fill-apply}
use Rattle.beta_fragment.specs.Names.{names, renamed}
use Rattle.beta_fragment.specs.Moves.{IsMove, put_name, Lacks}
use Rattle.beta_fragment.specs.HeadForm.{AllValidAt, all_read, IsHeadForm, HasLowHead, rigid_head}
use Rattle.beta_fragment.specs.declared.answer.RigidHead.{RigidHead}
use Rattle.beta_fragment.specs.declared.answer.Whnf.{Whnf}
use Rattle.beta_fragment.specs.declared.answer.Whnf.TheVariants.{Lam as LamForm, Rigid, Flex, Redex}
use Rattle.beta_fragment.specs.declared.answer.RigidHead.TheVariants.{Con, Int, Str, Level as LevelHead}
use Rattle.level_terms.specs.declared.node.VarId.{VarId}
use Rattle.beta_fragment.specs.Firm.{IsSpine, IsPlain}
use Rattle.beta_fragment.specs.inside.Turn.{GoesOn, TakesOn, FirstReady, IsFirstArg}
use Rattle.beta_fragment.specs.inside.Standing.{StandFor, ArePut, HasForm, FoundAs}
use Rattle.level_terms.proofs.ReadLemmas.{read-built, valid-below, grown-reads}
use Rattle.beta_fragment.proofs.EnterLemmas.{body-applied, body-valid}
use Rattle.level_terms.proofs.MakeLemmas.{parts-there, apply_all-append}
use Rattle.beta_fragment.proofs.MoveLemmas.{node-before, assigned-before, below_from, above_from}
use Rattle.beta_fragment.proofs.WorkLemmas.{lam-size}
use Rattle.beta_fragment.proofs.NamelessLemmas.{nameless-read}
use Rattle.beta_fragment.proofs.PutLemmas.{put-absent, put-built, put-keeps, put-applies}
use Rattle.beta_fragment.proofs.FilledLemmas.{low_names, low-lack, low-same}
use Rattle.beta_fragment.proofs.HeadLemmas.{renamed-places, take-front, take-next, take-more, lam-within, newest-arg, valid-append, read-grown_all, valid-grown_all}
use Rattle.beta_fragment.proofs.FirmLemmas.{applied-ready, apply-plain}
use Rattle.beta_fragment.proofs.TakingLaws.{rigid-ready}

-- the name itself
pub put-own : (n : ℕ) (s : Term) → fill (put_name n s) (names n) ≡ s
put-own n s = ap (λ b. cond b s (names n)) (eq-eqb n n refl)

pub put-here : (n : ℕ) (s : Term) (h : Head) → is_name n h ≡ true → fill (put_name n s) (At h) ≡ s
put-here n s h e = ap (λ b. cond b s (At h)) e

pub put-other : (n : ℕ) (s : Term) (h : Head) → is_name n h ≡ false → fill (put_name n s) (At h) ≡ At h
put-other n s h e = ap (λ b. cond b s (At h)) e

-- the name of a depth isn't in what is valid there
pub low-read : (g : Graph) (t depth : ℕ) → IsValid g t depth → has_name depth (read g t names) ≡ false
low-read g t depth v = ap (has_name depth) (readings_local g t depth names (low_names depth) v (λ i h. low-same depth i h)) ∙ nameless-read depth g t (low_names depth) (low-lack depth)

pub put-low_read : (g : Graph) (t depth : ℕ) (s : Term) → IsValid g t depth → fill (put_name depth s) (read g t names) ≡ read g t names
put-low_read g t depth s v = put-absent depth s (read g t names) (read-built g t names) (low-read g t depth v)

pub put-low_reads : (g : Graph) (depth : ℕ) (s : Term) (ts : List TermId) → AllValidAt g ts depth → map (fill (put_name depth s)) (all_read g ts) ≡ all_read g ts
put-low_reads g depth s [] v = refl
put-low_reads g depth s (t ∷ ts) v = ap₂ (λ (x : Term) (xs : List Term). x ∷ xs) (put-low_read g t.index depth s v.0) (put-low_reads g depth s ts v.1)

-- nor in a node whose levels stand for lower names
head-low : (g : Graph) (t depth : ℕ) (ls : List ℕ) → IsValid g t (length ls) → ((i : ℕ) → i < length ls → slice_index ls i < depth) → has_name depth (read g t (renamed ls)) ≡ false
head-low g t depth ls v below =
    ap (has_name depth) (readings_local g t (length ls) (renamed ls) (λ i. low_names depth (slice_index ls i)) v (λ i h. low-same depth (slice_index ls i) (below i h)))
    ∙ nameless-read depth g t (λ i. low_names depth (slice_index ls i)) (λ i. low-lack depth (slice_index ls i))

pub put-head_low : (g : Graph) (t depth : ℕ) (ls : List ℕ) (s : Term) → IsValid g t (length ls) → ((i : ℕ) → i < length ls → slice_index ls i < depth) → fill (put_name depth s) (read g t (renamed ls)) ≡ read g t (renamed ls)
put-head_low g t depth ls s v below = put-absent depth s (read g t (renamed ls)) (read-built g t (renamed ls)) (head-low g t depth ls v below)

pub all-deeper : (g : Graph) (depth : ℕ) (ts : List TermId) → AllValidAt g ts depth → AllValidAt g ts (suc depth)
all-deeper g depth [] v = tt
all-deeper g depth (t ∷ ts) v = (valid_deeper g t.index depth (suc depth) v.0 (omega arith), all-deeper g depth ts v.1)

-- an abstraction takes the name that stands for an argument
pub take-turn : (g : Graph) (depth head made : ℕ) (body a arg : TermId) (ls more : List ℕ) (fixed fixed' : ℕ) (args args' : List TermId) → IsSound g → node_at g.nodes head ≡ Some (Lam made body) → IsValid g head (length ls) → IsMove ls fixed depth → AllValidAt g (reverse args) depth →
    args ≡ args' ++ a ∷ [] → read g a.index names ≡ read g arg.index names → IsValid g arg.index depth → ready (read g arg.index names) ≡ true → more ≡ take made ls ++ depth ∷ [] → fixed' ≡ min fixed made → TakesOn depth g g head body.index arg.index ls more fixed' args args'
take-turn g depth head made body a arg ls more fixed fixed' args args' s e valid m vs split same_arg va ra q r =
    let within = lam-within g head made body (length ls) s e valid in
    let long : length more ≡ suc made = ap length q ∙ take-more ls depth made within in
    let order : reverse args ≡ a ∷ reverse args' = ap reverse split ∙ newest-arg args' a in
    let rest : AllValidAt g (reverse args') depth = (subst (λ zs. AllValidAt g zs depth) order vs).1 in
    let whole : apply (read g head (renamed ls)) (names depth) ≡ read g body.index (renamed more) =
    body-applied g s head made body e (renamed ls) (renamed-places ls) (names depth) tt
    ∙ readings_local g body.index (suc made) (at_level made (names depth) (renamed ls)) (renamed more) (body-valid g s head made body (length ls) e valid) (same within) in
    let x = read g arg.index names in
    let w = read-built g arg.index names in
    record {
      spine = λ u k. (
        apply_all (read g body.index (renamed more)) (all_read g (reverse args')),
        record { reads = refl; valid = all-deeper g depth (reverse args') rest },
        k.reads
            ∙ ap (λ zs. apply_all (read g head (renamed ls)) (all_read g zs)) order
            ∙ ap (λ z. apply_all (apply (read g head (renamed ls)) z) (all_read g (reverse args'))) same_arg
            ∙ sym (ap (λ z. fill (put_name depth (read g arg.index names)) (apply_all z (all_read g (reverse args')))) (sym whole)
            ∙ put-applies depth (read g arg.index names) w ra (all_read g (reverse args')) (apply (read g head (renamed ls)) (names depth))
            ∙ ap₂ apply_all
            (fill-apply (put_name depth (read g arg.index names)) (put-built depth (read g arg.index names) w) (put-keeps depth (read g arg.index names) ra) (read g head (renamed ls)) (names depth)
            ∙ ap₂ apply (put-head_low g head depth ls (read g arg.index names) valid m.below) (put-own depth (read g arg.index names)))
            (put-low_reads g depth (read g arg.index names) (reverse args') rest)),
      );
      moves = record {
        below = λ i h. go_below i (omega (arith, h, long)) within;
        few = omega (arith, long, r);
        low = (let l = m.low in omega (arith, l, r));
        stay = λ i h. ap (λ (zs : List ℕ). slice_index zs i) q ∙ take-front ls (depth ∷ []) made i within (omega (arith, h, r)) ∙ m.stay i (omega (arith, h, r));
      };
      valid = subst (IsValid g body.index) (sym long) (body-valid g s head made body (length ls) e valid);
      argument = va;
      is_ready = ra;
      less = λ g' sg gr below.
          let here = node-before g' g gr head (Lam made body) below e in
          ((parts-there g' head (Lam made body) sg here).0, lam-size g' head made body sg here);
    }
  where
    same : made ≤ length ls → (i : ℕ) → i < suc made → at_level made (names depth) (renamed ls) i ≡ renamed more i
    same within i h = go (nat_eq made i) refl
      where
        go : (c : Bool) → nat_eq made i ≡ c → cond c (names depth) (renamed ls i) ≡ renamed more i
        go true p = sym (ap names (ap₂ (λ (zs : List ℕ) (j : ℕ). slice_index zs j) q (sym (eqb-true made i p)) ∙ take-next ls depth made within))
        go false p = sym (ap names (ap (λ (zs : List ℕ). slice_index zs i) q ∙ take-front ls (depth ∷ []) made i within (step_down made i p h)))

    go_below : (i : ℕ) → i < suc made → made ≤ length ls → slice_index more i < suc depth
    go_below i h within = go (nat_eq made i) refl
      where
        go : (c : Bool) → nat_eq made i ≡ c → slice_index more i < suc depth
        go true p = subst (λ z. z < suc depth) (sym (ap₂ (λ (zs : List ℕ) (j : ℕ). slice_index zs j) q (sym (eqb-true made i p)) ∙ take-next ls depth made within)) (omega arith)
        go false p =
            let lt = step_down made i p h in
            subst (λ z. z < suc depth) (sym (ap (λ (zs : List ℕ). slice_index zs i) q ∙ take-front ls (depth ∷ []) made i within lt))
            (let low = m.below i (omega (arith, lt, within)) in omega (arith, low))

-- nodes that stand for names go on standing for them as nodes are added
pub stand-grown : (g h : Graph) (depth : ℕ) → IsSound g → Grows g h [] [] → (puts : List TermId) (u x : Term) → StandFor g depth puts u x → StandFor h depth puts u x
stand-grown g h depth s w [] u x k = k
stand-grown g h depth s w (a ∷ older) u x k =
    let same : read h a.index ≡ read g a.index = grown-reads g h s w a.index (valid-below g a.index (depth + length older) k.0) in (
      growth_keeps_valid g h [] [] a.index (depth + length older) s w (valid-below g a.index (depth + length older) k.0) k.0,
      ap (λ r. ready (r names)) same ∙ k.1,
      stand-grown g h depth s w older u (fill (put_name (depth + length older) (read h a.index names)) x)
          (subst (λ r. StandFor g depth older u (fill (put_name (depth + length older) (r names)) x)) (sym same) k.2),
    )

-- one more
pub stand-more : (g : Graph) (depth to : ℕ) (puts : List TermId) (a : TermId) (u x y : Term) → to ≡ depth + length puts → IsValid g a.index to → ready (read g a.index names) ≡ true → x ≡ fill (put_name to (read g a.index names)) y → StandFor g depth puts u x → StandFor g depth (a ∷ puts) u y
stand-more g depth to puts a u x y e v r q k = (
  subst (IsValid g a.index) e v,
  r,
  subst (StandFor g depth puts u) (q ∙ ap (λ n. fill (put_name n (read g a.index names)) y) e) k,
)

-- nodes that were put
pub puts-reads : (g h : Graph) (depth : ℕ) (s : Term) (ts rs : List TermId) → ArePut g h depth s ts rs → all_read h rs ≡ map (fill (put_name depth s)) (all_read g ts)
puts-reads g h depth s [] [] w = refl
puts-reads g h depth s [] (r ∷ rs) w = absurd w
puts-reads g h depth s (t ∷ ts) [] w = absurd w
puts-reads g h depth s (t ∷ ts) (r ∷ rs) w = ap₂ (λ (x : Term) (xs : List Term). x ∷ xs) w.1 (puts-reads g h depth s ts rs w.2)

pub puts-valid : (g h : Graph) (depth : ℕ) (s : Term) (ts rs : List TermId) → ArePut g h depth s ts rs → AllValidAt h rs depth
puts-valid g h depth s [] [] w = tt
puts-valid g h depth s [] (r ∷ rs) w = absurd w
puts-valid g h depth s (t ∷ ts) [] w = absurd w
puts-valid g h depth s (t ∷ ts) (r ∷ rs) w = (w.0, puts-valid g h depth s ts rs w.2)

pub puts-grown : (g h k : Graph) (depth : ℕ) (s : Term) → IsSound h → Grows h k [] [] → (ts rs : List TermId) → ArePut g h depth s ts rs → ArePut g k depth s ts rs
puts-grown g h k depth s sound w [] [] v = tt
puts-grown g h k depth s sound w [] (r ∷ rs) v = absurd v
puts-grown g h k depth s sound w (t ∷ ts) [] v = absurd v
puts-grown g h k depth s sound w (t ∷ ts) (r ∷ rs) v =
    let there = valid-below h r.index depth v.0 in (
      growth_keeps_valid h k [] [] r.index depth sound w there v.0,
      ap (λ f. f names) (grown-reads h k sound w r.index there) ∙ v.1,
      puts-grown g h k depth s sound w ts rs v.2,
    )

pub puts-last : (g h : Graph) (depth : ℕ) (s : Term) (ts rs : List TermId) (t r : TermId) → ArePut g h depth s ts rs → IsValid h r.index depth → read h r.index names ≡ fill (put_name depth s) (read g t.index names) → ArePut g h depth s (ts ++ t ∷ []) (rs ++ r ∷ [])
puts-last g h depth s [] [] t r w v e = (v, e, tt)
puts-last g h depth s [] (q ∷ rs) t r w v e = absurd w
puts-last g h depth s (u ∷ ts) [] t r w v e = absurd w
puts-last g h depth s (u ∷ ts) (q ∷ rs) t r w v e = (w.0, w.1, puts-last g h depth s ts rs t r w.2 v e)

pub valid-nth : (g : Graph) (d : ℕ) (ts : List TermId) (i : ℕ) (x : TermId) → i < length ts → AllValidAt g ts d → IsValid g (get_or ts i x).index d
valid-nth g d [] i x h v = absurd (omega arith)
valid-nth g d (t ∷ ts) zero x h v = v.0
valid-nth g d (t ∷ ts) (suc i) x h v = valid-nth g d ts i x (omega (arith, h)) v.1

-- a list turned twice
pub spine-before : (g : Graph) (depth : ℕ) (t : ℕ) (ls : List ℕ) (args stack : List TermId) → IsValid g t depth → ((i : ℕ) → i < depth → slice_index ls i ≡ i) → AllValidAt g args depth → stack ≡ reverse args → IsSpine g depth (apply_all (read g t names) (all_read g args)) t ls stack
spine-before g depth t ls args stack v own w e =
    let back : reverse stack ≡ args = ap reverse e ∙ reverse-reverse args in
    record {
      reads = ap₂ apply_all (readings_local g t depth names (renamed ls) v (λ i h. ap names (sym (own i h)))) (ap (all_read g) (sym back));
      valid = subst (λ zs. AllValidAt g zs depth) (sym back) w;
    }

pub own-below : (depth : ℕ) (ls : List ℕ) → length ls ≡ depth → ((i : ℕ) → i < depth → slice_index ls i ≡ i) → (i : ℕ) → i < length ls → slice_index ls i < depth
own-below depth ls long own i h = let lt : i < depth = omega (arith, h, long) in let here = own i lt in omega (arith, here, lt)

-- the form of a term before more arguments
pub rigid-before : (g : Graph) (depth : ℕ) (u : Term) (head : RigidHead) (first args list : List TermId) → IsHeadForm g depth u (Rigid head first) → AllValidAt g args depth → list ≡ first ++ args → IsHeadForm g depth (apply_all u (all_read g args)) (Rigid head list)
rigid-before g depth u head first args list k v e = (
  subst (λ ts. AllValidAt g ts depth) (sym e) (valid-append g depth first args k.0 v),
  ap (λ z. apply_all z (all_read g args)) k.1
      ∙ sym (apply_all-append (all_read g first) (all_read g args) (At (rigid_head head)))
      ∙ ap (apply_all (At (rigid_head head))) (sym (map-append (λ (t : TermId). read g t.index names) first args) ∙ ap (all_read g) (sym e)),
)

-- forms with a node in the place of the name of the depth
put-form : (g : Graph) (depth : ℕ) (s f x : Term) (args : List TermId) (ys : List Term) → IsBuilt s → ready s ≡ true → x ≡ apply_all f (all_read g args) → ys ≡ map (fill (put_name depth s)) (all_read g args) → fill (put_name depth s) x ≡ apply_all (fill (put_name depth s) f) ys
put-form g depth s f x args ys w r e p =
    ap (fill (put_name depth s)) e ∙ put-applies depth s w r (all_read g args) f ∙ ap (apply_all (fill (put_name depth s) f)) (sym p)

pub with-rigid : (g : Graph) (depth : ℕ) (s x : Term) (form : Whnf) (head : RigidHead) (args : List TermId) (ys : List Term) → IsBuilt s → ready s ≡ true → form ≡ Rigid head args → IsHeadForm g (depth + 1) x form → ys ≡ map (fill (put_name depth s)) (all_read g args) →
    fill (put_name depth s) x ≡ apply_all (fill (put_name depth s) (At (rigid_head head))) ys
with-rigid g depth s x form head args ys w r e k p =
    let form' = subst (IsHeadForm g (depth + 1) x) e k in
    put-form g depth s (At (rigid_head head)) x args ys w r form'.1 p

pub with-flex : (g h : Graph) (depth : ℕ) (s x : Term) (form : Whnf) (v : VarId) (args list : List TermId) → IsBuilt s → ready s ≡ true → Grows g h [] [] → h.depths ≡ g.depths → form ≡ Flex v args → all_read h list ≡ map (fill (put_name depth s)) (all_read g args) → AllValidAt h list depth →
    IsHeadForm g (depth + 1) x form → IsHeadForm h depth (fill (put_name depth s) x) (Flex v list)
with-flex g h depth s x form v args list w r gr same e p valid k =
    let form' = subst (IsHeadForm g (depth + 1) x) e k in (
      subst (λ (ds : List ℕ). v.index < length ds) (sym same) form'.0,
      assigned-before g h gr v.index ∙ form'.1,
      valid,
      put-form g depth s (At (term.Var v.index)) x args (all_read h list) w r form'.3 p,
    )

pub redex-valid : (g : Graph) (d : ℕ) (form : Whnf) (t : TermId) (args : List TermId) → form ≡ Redex t args → HasForm g d form → IsValid g t.index d
redex-valid g d form t args e k = (subst (IsHeadForm g d k.0) e k.1).0.valid

pub with-redex : (g h k : Graph) (depth : ℕ) (x : Term) (form : Whnf) (t put r : TermId) (args list : List TermId) → IsSound g → IsSound h → Grows g h [] [] → Grows h k [] [] → IsValid g put.index depth → ready (read g put.index names) ≡ true → form ≡ Redex t args →
    all_read h list ≡ map (fill (put_name depth (read g put.index names))) (all_read g args) → AllValidAt h list depth → read k r.index names ≡ fill (put_name depth (read h put.index names)) (read h t.index names) →
    IsHeadForm g (depth + 1) x form → fill (put_name depth (read g put.index names)) x ≡ apply_all (read k r.index names) (all_read k list)
with-redex g h k depth x form t put r args list sg sh gh hk vp ready_put e p valid q f =
    let form' = subst (IsHeadForm g (depth + 1) x) e f in
    let putted = grown-reads g h sg gh put.index (valid-below g put.index depth vp) in
    let body = grown-reads g h sg gh t.index (valid-below g t.index (depth + 1) form'.0.valid) in
    put-form g depth (read g put.index names) (read g t.index names) x args (all_read k list) (read-built g put.index names) ready_put form'.3 (read-grown_all h k depth sh hk list valid ∙ p)
    ∙ ap (λ z. apply_all z (all_read k list)) (sym (q ∙ ap₂ (λ (a b : Term). fill (put_name depth a) b) (ap (λ f. f names) putted) (ap (λ f. f names) body)))

-- forms that were found while names stood for nodes
pub found-split : (g : Graph) (depth n : ℕ) (puts rest : List TermId) (put : TermId) (u : Term) (w : Whnf) → puts ≡ rest ++ put ∷ [] → n ≡ depth + length rest → FoundAs g depth (reverse puts) u w →
    (x : Term) × IsValid g put.index n × (ready (read g put.index names) ≡ true) × StandFor g depth (reverse rest) u (fill (put_name n (read g put.index names)) x) × IsHeadForm g (n + 1) x w
found-split g depth n puts rest put u w e q k =
    let order : reverse puts ≡ put ∷ reverse rest = ap reverse e ∙ newest-arg rest put in
    let found = subst (λ ts. FoundAs g depth ts u w) order k in
    let long = length-reverse rest in
    let here : depth + length (reverse rest) ≡ n = omega (arith, q, long) in
    let whole : depth + suc (length (reverse rest)) ≡ n + 1 = omega (arith, q, long) in (
      found.0,
      subst (IsValid g put.index) here found.1.0,
      found.1.1,
      subst (λ m. StandFor g depth (reverse rest) u (fill (put_name m (read g put.index names)) found.0)) here found.1.2,
      subst (λ m. IsHeadForm g m found.0 w) whole found.2,
    )

pub found-next : (g h : Graph) (depth n : ℕ) (puts rest : List TermId) (put : TermId) (u : Term) (w w' : Whnf) → IsSound g → Grows g h [] [] → puts ≡ rest ++ put ∷ [] → n ≡ depth + length rest →
    ((x : Term) → IsHeadForm g (n + 1) x w → IsHeadForm h n (fill (put_name n (read g put.index names)) x) w') → FoundAs g depth (reverse puts) u w → FoundAs h depth (reverse rest) u w'
found-next g h depth n puts rest put u w w' s gr e q f k =
    let parts = found-split g depth n puts rest put u w e q k in
    let long = length-reverse rest in
    let here : n ≡ depth + length (reverse rest) = omega (arith, q, long) in (
      fill (put_name n (read g put.index names)) parts.0,
      stand-grown g h depth s gr (reverse rest) u (fill (put_name n (read g put.index names)) parts.0) parts.3,
      subst (λ m. IsHeadForm h m (fill (put_name n (read g put.index names)) parts.0) w') here (f parts.0 parts.4),
    )

pub puts-short : (depth to : ℕ) (puts rest : List TermId) (put : TermId) → to ≡ depth + length puts → puts ≡ rest ++ put ∷ [] → to - 1 ≡ depth + length rest
puts-short depth to puts rest put e q = let l = ap length q ∙ length-append rest (put ∷ []) in omega (arith, e, l)

pub found-last : (g : Graph) (depth : ℕ) (puts : List TermId) (u : Term) (w : Whnf) → puts ≡ [] → FoundAs g depth (reverse puts) u w → IsHeadForm g depth u w
found-last g depth puts u w e k =
    let found = subst (λ ts. FoundAs g depth (reverse ts) u w) e k in
    let flat : depth + 0 ≡ depth = omega arith in
    subst (λ m. IsHeadForm g m u w) flat (subst (λ z. IsHeadForm g (depth + 0) z w) (sym found.1) found.2)

-- turns while names stand for nodes
abbrev pub Stands : Graph → (depth to : ℕ) → List TermId → Term → (head : ℕ) → List ℕ → List TermId → Type 0
Stands g depth to puts u head ls args = (x : Term) × StandFor g depth puts u x × IsSpine g to x head ls args

pub goes-spine : (g h : Graph) (depth to head next : ℕ) (ls ls' : List ℕ) (fixed : ℕ) (args args' puts : List TermId) (u : Term) → IsSound g → Grows g h [] [] → GoesOn to g h head next ls ls' fixed args args' → Stands g depth to puts u head ls args → Stands h depth to puts u next ls' args'
goes-spine g h depth to head next ls ls' fixed args args' puts u s gr t k = (k.0, stand-grown g h depth s gr puts u k.0 k.1, t.spine k.0 k.2)

pub takes-spine : (g h : Graph) (depth to head next : ℕ) (arg : TermId) (ls ls' : List ℕ) (fixed : ℕ) (args args' puts : List TermId) (u : Term) → IsSound g → Grows g h [] [] → TakesOn to g h head next arg.index ls ls' fixed args args' → to ≡ depth + length puts → Stands g depth to puts u head ls args → Stands h depth (suc to) (arg ∷ puts) u next ls' args'
takes-spine g h depth to head next arg ls ls' fixed args args' puts u s gr t e k =
    let inner = t.spine k.0 k.2 in
    (inner.0, stand-more h depth to puts arg u k.0 inner.0 e t.argument t.is_ready inner.2 (stand-grown g h depth s gr puts u k.0 k.1), inner.1)

pub puts-reversed : (g : Graph) (depth to : ℕ) (puts more : List TermId) (arg : TermId) (u : Term) (head : ℕ) (ls : List ℕ) (args : List TermId) → more ≡ puts ++ arg ∷ [] → Stands g depth to (arg ∷ reverse puts) u head ls args → Stands g depth to (reverse more) u head ls args
puts-reversed g depth to puts more arg u head ls args e k = subst (λ ts. Stands g depth to ts u head ls args) (sym (ap reverse e ∙ newest-arg puts arg)) k

pub puts-long : (depth to : ℕ) (puts more : List TermId) (arg : TermId) (n : ℕ) → to ≡ depth + length puts → more ≡ puts ++ arg ∷ [] → n ≡ to + 1 → n ≡ depth + length more
puts-long depth to puts more arg n e q r = let l = ap length q ∙ length-append puts (arg ∷ []) in omega (arith, e, r, l)

pub ends-found : (g h : Graph) (depth to head : ℕ) (ls : List ℕ) (args puts : List TermId) (u : Term) (w : Whnf) → IsSound g → Grows g h [] [] → ((x : Term) → IsSpine g to x head ls args → IsHeadForm h to x w) → to ≡ depth + length puts → Stands g depth to (reverse puts) u head ls args → FoundAs h depth (reverse puts) u w
ends-found g h depth to head ls args puts u w s gr f e k =
    let long = length-reverse puts in
    let here : to ≡ depth + length (reverse puts) = omega (arith, e, long) in
    (k.0, stand-grown g h depth s gr (reverse puts) u k.0 k.1, subst (λ m. IsHeadForm h m k.0 w) here (f k.0 k.2))

pub stands-grown : (g h : Graph) (depth to : ℕ) (puts : List TermId) (u : Term) (head : ℕ) (ls : List ℕ) (args : List TermId) → IsSound g → Grows g h [] [] → IsValid g head (length ls) → Stands g depth to puts u head ls args → Stands h depth to puts u head ls args
stands-grown g h depth to puts u head ls args s gr v k = (
  k.0,
  stand-grown g h depth s gr puts u k.0 k.1,
  record {
    reads = k.2.reads ∙ ap₂ apply_all (ap (λ r. r (renamed ls)) (sym (grown-reads g h s gr head (valid-below g head (length ls) v)))) (sym (read-grown_all g h to s gr (reverse args) k.2.valid));
    valid = valid-grown_all g h to s gr (reverse args) k.2.valid;
  },
)

-- a rigid form is of a ready term
pub rigid-form_ready : (g : Graph) (depth : ℕ) (u : Term) (form : Whnf) (head : RigidHead) (args : List TermId) → form ≡ Rigid head args → IsHeadForm g depth u form → ready u ≡ true
rigid-form_ready g depth u form head args e k =
    let form' = subst (IsHeadForm g depth u) e k in
    ap ready form'.1 ∙ applied-ready (all_read g args) (At (rigid_head head)) tt ∙ rigid-ready head

pub first-ready : (g : Graph) (a : TermId) (ts : List TermId) → IsFirstArg a ts → ready (read g a.index names) ≡ true → FirstReady g ts
first-ready g a [] w r = absurd w
first-ready g a (b ∷ ts) w r = subst (λ (z : TermId). ready (read g z.index names) ≡ true) w r

pub first-valid : (g : Graph) (depth : ℕ) (a : TermId) (ts : List TermId) → IsFirstArg a ts → AllValidAt g ts depth → IsValid g a.index depth
first-valid g depth a [] w v = absurd w
first-valid g depth a (b ∷ ts) w v = subst (λ (z : TermId). IsValid g z.index depth) (sym w) v.0

-- the head of a form is in the term
has-head : (n : ℕ) (xs : List Term) (t : Term) → IsPlain t → has_name n t ≡ true → has_name n (apply_all t xs) ≡ true
has-head n [] t w e = e
has-head n (x ∷ xs) t w e = subst (λ z. has_name n (apply_all z xs) ≡ true) (sym (apply-plain t x w)) (has-head n xs (term.App t x) tt (ap (λ b. b || has_name n x) e))

pub form-low : (g h : Graph) (t depth : ℕ) (w : Whnf) → IsValid g t depth → IsHeadForm h depth (read g t names) w → HasLowHead depth w
form-low g h t depth (LamForm r) v k = tt
form-low g h t depth (Flex x args) v k = tt
form-low g h t depth (Redex r args) v k = tt
form-low g h t depth (Rigid (Con c) args) v k = tt
form-low g h t depth (Rigid (Int n) args) v k = tt
form-low g h t depth (Rigid (Str s) args) v k = tt
form-low g h t depth (Rigid (LevelHead l) args) v k = go (nat_lt l depth) refl
  where
    go : (b : Bool) → nat_lt l depth ≡ b → l < depth
    go true e = below_from l depth e
    go false e = absurd (let low = above_from l depth e in
        let z : true ≡ false = sym (has-head l (all_read h args) (names l) tt (eq-eqb l l refl)) ∙ sym (ap (has_name l) k.1) ∙ low-read g t l (valid_deeper g t depth l v low) in cc)
