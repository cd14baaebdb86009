-- Calls that let the heap grow.
use Rattle.std.proofs.Common.{◌≡◌, ℕ, Bool, true, false, cond, eq-eqb, ne_eqb, Option, Some, None, IfSome, Result, Ok, Err, IfOk, IfErr, MatchBool, MatchOption, List, [], ◌∷◌, length, refl, sym, ap, ◌∙◌, subst, arith, OnOk}
use Rattle.level_terms.specs.Graph.{Graph}
use Rattle.level_terms.specs.Growth.{Grows}
use Rattle.level_terms.specs.Sound.{IsSound}
use Rattle.level_terms.specs.Valid.{IsValid}
use Rattle.beta_fragment.specs.HeadForm.{AllValidAt}
use Rattle.level_terms.proofs.ValidLemmas.{growth_keeps_readings}
use Rattle.beta_fragment.specs.Names.{names}
use Rattle.level_terms.proofs.ReadLemmas.{valid-below}
use Rattle.level_terms.specs.declared.node.TermId.{TermId}
use Rattle.pattern_unify.specs.Answers.{ReadsUnder}
use Rattle.pattern_unify.proofs.KeptLemmas.{grown-nodes}
use Rattle.search_moves.specs.declared.frame.Mark.{Mark}
use Rattle.beta_fragment.specs.declared.answer.UnifyStop.{UnifyStop}
use Rattle.beta_fragment.specs.declared.answer.UnifyStop.TheVariants.{Fault, Memory}
use Rattle.ref_terms.specs.search.Branch.{Branch}
use Rattle.ref_terms.specs.search.Resolve.{Clashes}
use Rattle.search_moves.specs.Matching.{HeadFits, HeadStops, tried_at}
use Rattle.search_moves.specs.Calling.{HasFitted, HasBroken, tried_made}
use Rattle.ref_terms.specs.unification.Problem.{Problem}
use Rattle.search_moves.specs.declared.frame.Frame.{Frame}
use Rattle.search_moves.specs.declared.frame.Saved.{Saved}
use Rattle.hyp_clause.proofs.HypLemmas.{hyps-read}
use Rattle.suspend.specs.Store.{stored}
use Rattle.search_moves.specs.World.{World, chain, IsContextAt, AllFrames, AllConstraints, IsWithin, IsFine}
use Rattle.search_moves.specs.Reading.{goal_in, branch_in}
use Rattle.search_moves.specs.Saved.{AllSaved, Keeps, KeepsNewest}
use Rattle.search_moves.specs.Moves.{Growing, LeavesRest}
use Rattle.ref_terms.specs.search.Formula.{GoalKind}
use Rattle.builtins.specs.Moves.{GoesOn}
use Rattle.search_moves.specs.Machine.{Machine, IsFirst, GoesOnSo}
use Rattle.search_moves.proofs.WorldLemmas.{growth-keeps}
use Rattle.search_moves.proofs.OwnLemmas.{context-grown}
use Rattle.search_moves.proofs.FrameLemmas.{valid-grown, all-valid-grown, frames-grown}
use Rattle.search_moves.proofs.ConstraintLemmas.{constraints-grown}
use Rattle.search_moves.proofs.ReadingLemmas.{grown-reads, unified-reads}

pub grow-keeps : (w w' : World) (saved : List Saved) → Growing w.heap w'.heap → LeavesRest w w' → AllSaved w saved → KeepsNewest saved w w'
grow-keeps w w' [] g r h = tt
grow-keeps w w' (a ∷ older) g r h = growth-keeps w w' g.before g.after a.mark g.grows r h.0.within

pub grow-fine : (w w' : World) (first : ℕ) → IsSound w.heap → Growing w.heap w'.heap → LeavesRest w w' → IsFine w first → IsFine w' first
grow-fine w w' first sound g r fine = record {
  frames = subst (AllFrames w'.heap) (sym r.frames) (frames-grown w.heap w'.heap g.before g.after sound g.grows w.frames fine.frames);
  there = omega (arith, fine.there, ap length r.frames);
  query = subst (λ ts. AllValidAt w'.heap ts 0) (sym r.query) (all-valid-grown w.heap w'.heap g.before g.after 0 sound g.grows w.query fine.query);
  code = omega (arith, fine.code, r.base, grown-nodes w.heap w'.heap g.before g.after g.grows);
  constraints = subst (AllConstraints w'.heap) (sym r.store.constraints) (constraints-grown w.heap w'.heap g.before g.after sound g.grows (stored w.log) fine.constraints);
  keyed = r.keyed fine.keyed;
}

pub no-notes : (g h : Graph) → Grows g h [] [] → Growing g h
no-notes g h w = record { before = []; after = []; grows = w }

pub same-branch : (w w' : World) (first : ℕ) → IsSound w.heap → IsFine w first → LeavesRest w w' → Grows w.heap w'.heap [] [] → w'.heap.depths ≡ w.heap.depths → branch_in w' first ≡ branch_in w first
same-branch w w' first sound fine r g variables =
    grown-reads w w' first sound fine r g ∙ ap (λ ds. record (branch_in w first) { next_var = length ds }) variables

pub first-grown : (m m' : Machine) (f : Frame) → m'.first ≡ m.first → IsSound m.world.heap → Growing m.world.heap m'.world.heap → LeavesRest m.world m'.world → IsFirst m f → IsFirst m' f
first-grown m m' f e sound g r h = record {
  goals = ap (chain m'.world.frames) e ∙ ap (λ fs. chain fs m.first) r.frames ∙ h.goals ∙ ap (λ fs. f ∷ chain fs f.next) (sym r.frames);
  valid = valid-grown m.world.heap m'.world.heap g.before g.after f.term.index f.depth sound g.grows h.valid;
  context = context-grown m.world.heap m'.world.heap g.before g.after f.depth sound g.grows f.context h.context;
  later = omega (arith, h.later, e);
}

pub goal-grown : (g h : Graph) (f : Frame) (m : Machine) → m.world.heap ≡ g → IsSound g → Grows g h [] [] → IsFirst m f → goal_in h f ≡ goal_in m.world.heap f
goal-grown g h f m e sound w first =
    let valid = subst (λ z. IsValid z f.term.index f.depth) e first.valid in
    let context = subst (λ z. IsContextAt z f.depth f.context) e first.context in
    let assumed = hyps-read g h f.context sound w context.valid in
    (λ i. record { names = f.depth; assumptions = assumed i; barrier = f.barrier; term = growth_keeps_readings g h f.term.index names sound w (valid-below g f.term.index f.depth valid) i })
    ∙ ap (λ z. goal_in z f) (sym e)

-- a built-in that succeeds
pub went-on : (table : List (List ℕ)) (old new : Machine) (depth : ℕ) (kind : GoalKind) (shown : Option (List ℕ)) → IsFine old.world old.first → new.first ≡ old.first → LeavesRest old.world new.world
    → GoesOn table old.world.heap new.world.heap depth kind shown → GoesOnSo table old new depth kind shown
went-on table old new depth kind shown fine e r h =
    let q : Problem = record { next_var = length new.world.heap.depths; equations = []; bindings = h.made } in
    let under : ReadsUnder old.world.heap new.world.heap q = record { readings = h.readings; variables = refl } in
    record { made = h.made; branch = ap (branch_in new.world) e ∙ unified-reads old.world new.world old.first q fine r under; moves = h.moves }

-- with as many arguments, the clause's arguments decide
pub made-at : (g : Graph) (m d : ℕ) (ms : List Bool) (hs ts : List TermId) (b : Branch) → length hs ≡ length ts → tried_made g m d ms hs ts b ≡ tried_at g m d ms hs ts b
made-at g m d ms hs ts b e = ap (λ x. cond x (tried_at g m d ms hs ts b) Clashes) (eq-eqb (length hs) (length ts) e)

-- with another number of them it clashes
pub made-clashes : (g : Graph) (m d : ℕ) (ms : List Bool) (hs ts : List TermId) (b : Branch) → (length hs ≡ length ts → ⊥) → tried_made g m d ms hs ts b ≡ Clashes
made-clashes g m d ms hs ts b e = ap (λ x. cond x (tried_at g m d ms hs ts b) Clashes) (ne_eqb (length hs) (length ts) e)

pub made-stops : (g : Graph) (m d : ℕ) (ms : List Bool) (hs ts : List TermId) (stop : UnifyStop) → length hs ≡ length ts → HeadStops m d ms hs ts g stop → HasBroken m d ms hs ts g stop
made-stops g m d ms hs ts (Fault f) e h = λ b. made-at g m d ms hs ts b e ∙ h b
made-stops g m d ms hs ts Memory e h = λ b. tt

pub answer-maps : {E : Type 0} (r : Result Bool E) (A B X Y : Type 0) → (A → B) → (X → Y) → IfOk r (λ b. MatchBool b A X) → IfOk r (λ b. MatchBool b B Y)
answer-maps (Ok true) A B X Y f k h = f h
answer-maps (Ok false) A B X Y f k h = k h
answer-maps (Err e) A B X Y f k h = tt

pub if-err : {T E : Type 0} (r : Result T E) (A B : E → Type 0) → ((e : E) → A e → B e) → IfErr r A → IfErr r B
if-err (Ok t) A B f h = tt
if-err (Err e) A B f h = f e h

pub if-some : {A : Type 0} (o : Option A) (P Q : A → Type 0) → ((a : A) → P a → Q a) → IfSome o P → IfSome o Q
if-some None P Q f h = tt
if-some (Some a) P Q f h = f a h

pub match-some : {A : Type 0} (o : Option A) (N : Type 0) (P : A → Type 0) (x : A) → o ≡ Some x → MatchOption o N P → P x
match-some o N P x e h = subst (λ z. MatchOption z N P) e h

pub match-none : {A : Type 0} (o : Option A) (N : Type 0) (P : A → Type 0) → o ≡ None → MatchOption o N P → N
match-none o N P e h = subst (λ z. MatchOption z N P) e h

pub answer-map : {E : Type 0} (r : Result Bool E) (A B X : Type 0) → (A → B) → IfOk r (λ b. MatchBool b A X) → IfOk r (λ b. MatchBool b B X)
answer-map (Ok true) A B X f h = f h
answer-map (Ok false) A B X f h = h
answer-map (Err e) A B X f h = tt

pub told-map : {E : Type 0} (r : Result Bool E) (P A B X : Type 0) → (A → B) → IfOk r (λ b. P → MatchBool b A X) → IfOk r (λ b. P → MatchBool b B X)
told-map (Ok true) P A B X f h = λ p. f (h p)
told-map (Ok false) P A B X f h = h
told-map (Err e) P A B X f h = tt

pub on-ok : {T E : Type 0} (r : Result T E) (A B : Type 0) → (A → B) → OnOk r A → OnOk r B
on-ok (Ok t) A B f h = f h
on-ok (Err e) A B f h = tt

pub growing-keeps : (w w' : World) (m : Mark) → Growing w.heap w'.heap → LeavesRest w w' → IsWithin m w → Keeps m w w'
growing-keeps w w' m g r v = growth-keeps w w' g.before g.after m g.grows r v

pub fitted-machine : (mark depth : ℕ) (ms : List Bool) (hs ts : List TermId) (old new : Machine) → length hs ≡ length ts → IsFine old.world old.first → new.first ≡ old.first → LeavesRest old.world new.world
    → HeadFits mark depth ms hs ts old.world.heap new.world.heap → HasFitted mark depth ms hs ts old new
fitted-machine mark depth ms hs ts old new long fine e r h =
    let q : Problem = record { next_var = length new.world.heap.depths; equations = []; bindings = h.made } in
    let under : ReadsUnder old.world.heap new.world.heap q = record { readings = h.readings; variables = refl } in
    record {
      made = h.made;
      built = h.built;
      fits = λ b. made-at old.world.heap mark depth ms hs ts b long ∙ h.fits b;
      branch = ap (branch_in new.world) e ∙ unified-reads old.world new.world old.first q fine r under;
      readings = h.readings;
    }
