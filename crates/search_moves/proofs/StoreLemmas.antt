-- What a machine's world is when a constraint joins or leaves the store.
use Rattle.std.proofs.Common.{◌≡◌, ℕ, suc, Some, List, [], ◌∷◌, ◌++◌, map, filter, refl, sym, ap, ap₂, ◌∙◌, subst, arith}
use Rattle.std.proofs.lemmas.List.{map-append}
use Rattle.level_terms.specs.declared.node.TermId.{TermId}
use Rattle.level_terms.specs.Graph.{Graph}
use Rattle.level_terms.specs.Growth.{Grows}
use Rattle.level_terms.specs.Sound.{IsSound}
use Rattle.level_terms.specs.Undo as heap
use Rattle.level_terms.proofs.ReadLemmas.{valid-below}
use Rattle.level_terms.proofs.ValidLemmas.{growth_keeps_readings}
use Rattle.beta_fragment.specs.Names.{names}
use Rattle.beta_fragment.specs.HeadForm.{AllValidAt}
use Rattle.ref_terms.specs.search.Branch as branch
use Rattle.ref_terms.specs.search.Branch.{Goal}
use Rattle.ref_terms.specs.search.Next.{is_awake}
use Rattle.hyp_clause.specs.declared.hyp.Hyp.{Hyp}
use Rattle.hyp_clause.proofs.HypLemmas.{hyps-read}
use Rattle.suspend.specs.declared.constraint.Constraint.{Constraint}
use Rattle.suspend.specs.Store.{Event, joins, leaves, added, stored, without, stored_at}
use Rattle.suspend.specs.Keyed.{KeysValid}
use Rattle.suspend.proofs.CallerLemmas.{after-joining, after-leaving, numbers-ascend}
use Rattle.search_moves.specs.declared.frame.Frame.{Frame}
use Rattle.search_moves.specs.declared.frame.Saved.{Saved}
use Rattle.search_moves.specs.World.{World, oldest, IsConstraintAt, AllConstraints, IsFine}
use Rattle.search_moves.specs.Reading.{goal_in, constraint_in, branch_in}
use Rattle.search_moves.specs.Saved.{AllSaved, Keeps, KeepsNewest}
use Rattle.search_moves.specs.Machine.{Machine, branch_of}
use Rattle.search_moves.specs.Waking.{first_up, up_in, asleep_in, AllGoalsAt, WakesOne}
use Rattle.search_moves.proofs.ListLemmas.{oldest-cons}
use Rattle.search_moves.proofs.OwnLemmas.{context-grown}
use Rattle.search_moves.proofs.FrameLemmas.{valid-grown}
use Rattle.search_moves.proofs.WakingLemmas.{without-valid, sleeps_on, wakes}

-- an event is added to the log
pub log-keeps : (w w' : World) (e : Event (List Hyp)) (saved : List Saved) → w' ≡ record w { log = e ∷ w.log } → AllSaved w saved → KeepsNewest saved w w'
log-keeps w w' e [] is h = tt
log-keeps w w' e (a ∷ older) is h =
    let cut = oldest-cons e w.log a.mark.store.events h.0.within.log in
    subst (λ z. Keeps a.mark w z) (sym is) (record {
      within = record { heap = h.0.within.heap; frames = h.0.within.frames; path = h.0.within.path; log = omega (arith, h.0.within.log) };
      same = λ i. record { heap = heap.undone a.mark.heap w.heap; frames = oldest a.mark.frames w.frames; path = oldest a.mark.path w.path; log = cut i; query = w.query; base = w.base };
    })

keys-valid : (g : Graph) (depth : ℕ) (ks : List TermId) → AllValidAt g ks depth → KeysValid g depth ks
keys-valid g depth [] v = tt
keys-valid g depth (k ∷ ks) v = ((valid-below g k.index depth v.0, v.0), keys-valid g depth ks v.1)

constraints-last : (g : Graph) (es : List (ℕ × Constraint (List Hyp))) (n : ℕ) (c : Constraint (List Hyp)) → AllConstraints g es → IsConstraintAt g c → AllConstraints g (es ++ (n, c) ∷ [])
constraints-last g [] n c v w = (w, tt)
constraints-last g (e ∷ es) n c v w = (v.0, constraints-last g es n c v.1 w)

-- one joins
pub join-fine : (w w' : World) (c : Constraint (List Hyp)) (first : ℕ) → w' ≡ record w { log = joins c ∷ w.log } → IsConstraintAt w.heap c → IsFine w first → IsFine w' first
join-fine w w' c first e valid fine = subst (λ z. IsFine z first) (sym e) (record {
  frames = fine.frames;
  there = fine.there;
  query = fine.query;
  code = fine.code;
  constraints = constraints-last w.heap (stored w.log) (suc (added w.log)) c fine.constraints valid;
  keyed = after-joining (List Hyp) w.heap w.log c (keys-valid w.heap c.names c.keys valid.keys) fine.keyed;
})

pub join-reads : (w w' : World) (c : Constraint (List Hyp)) (first : ℕ) → w' ≡ record w { log = joins c ∷ w.log }
    → branch_in w' first ≡ record (branch_in w first) { store = (branch_in w first).store ++ constraint_in w.heap (suc (added w.log), c) ∷ []; declared = suc (added w.log) }
join-reads w w' c first e =
    ap (λ z. branch_in z first) e
    ∙ ap (λ (cs : List branch.Constraint). record (branch_in w first) { store = cs; declared = suc (added w.log) }) (map-append (constraint_in w.heap) (stored w.log) ((suc (added w.log), c) ∷ []))

-- one leaves
pub leave-fine : (w w' : World) (n first : ℕ) → w' ≡ record w { log = leaves n ∷ w.log } → IsFine w first → IsFine w' first
leave-fine w w' n first e fine = subst (λ z. IsFine z first) (sym e) (record {
  frames = fine.frames;
  there = fine.there;
  query = fine.query;
  code = fine.code;
  constraints = without-valid w.heap n (stored w.log) fine.constraints;
  keyed = after-leaving (List Hyp) w.heap w.log n fine.keyed;
})

-- goals in a heap that grows
pub goals-grown : (g h : Graph) → IsSound g → Grows g h [] [] → (fs : List Frame) → AllGoalsAt g fs → AllGoalsAt h fs
goals-grown g h sound w [] v = tt
goals-grown g h sound w (f ∷ fs) v = (valid-grown g h [] [] f.term.index f.depth sound w v.0, context-grown g h [] [] f.depth sound w f.context v.1, goals-grown g h sound w fs v.2)

pub goals-read : (g h : Graph) → IsSound g → Grows g h [] [] → (fs : List Frame) → AllGoalsAt g fs → map (goal_in h) fs ≡ map (goal_in g) fs
goals-read g h sound w [] v = refl
goals-read g h sound w (f ∷ fs) v =
    let assumed = hyps-read g h f.context sound w v.1.valid in
    let term = growth_keeps_readings g h f.term.index names sound w (valid-below g f.term.index f.depth v.0) in
    let one : goal_in h f ≡ goal_in g f = λ i. record { names = f.depth; assumptions = assumed i; barrier = f.barrier; term = term i } in
    ap₂ (λ (x : Goal) (xs : List Goal). x ∷ xs) one (goals-read g h sound w fs v.2)

-- the branch in which a goal was suspended
abbrev pub suspended : Machine → (depth : ℕ) → List Hyp → (t : TermId) → List TermId → branch.Branch
suspended m depth hs t ks = record (branch_of m) {
  store = (branch_of m).store ++ constraint_in m.world.heap (suc (added m.world.log), record { names = depth; context = hs; goal = t; keys = ks }) ∷ [];
  declared = suc (added m.world.log);
}

-- the first awake constraint was taken out
pub withdrawn-wakes : (old new : Machine) (barrier n : ℕ) (f : Frame) (c : Constraint (List Hyp)) → IsFine old.world old.first → first_up (branch_of old).store ≡ Some n → stored_at (stored old.world.log) n ≡ Some c
    → f ≡ record { depth = c.names; barrier = barrier; term = c.goal; next = 0; context = c.context } → new.world ≡ record old.world { log = leaves n ∷ old.world.log } → new.first ≡ old.first → WakesOne barrier old new f
withdrawn-wakes old new barrier n f c fine up at is world first =
    let g = old.world.heap in
    let es = stored old.world.log in
    let woken = wakes g es n c fine.constraints (numbers-ascend old.world.log) up at in
    let store : (branch_of new).store ≡ map (constraint_in g) (without n es) = ap (λ z. (branch_in z new.first).store) world in
    record {
      constraint = constraint_in g (n, c);
      goal = ap₂ (λ (z : World) (x : Frame). goal_in z.heap x) world is;
      first = woken.first ∙ ap (λ (cs : List branch.Constraint). constraint_in g (n, c) ∷ filter is_awake cs) (sym store);
      asleep = ap (filter sleeps_on) store ∙ woken.asleep;
      rest = ap₂ (λ (z : World) (k : ℕ). branch_in z k) world first ∙ ap (λ (cs : List branch.Constraint). record (branch_of old) { store = cs }) (sym store);
      valid = subst (λ h. AllGoalsAt h (f ∷ [])) (ap (λ z. z.heap) (sym world)) (subst (λ x. AllGoalsAt g (x ∷ [])) (sym is) (woken.valid.goal, woken.valid.context, tt));
    }

-- what was looked at before changed nothing of the branch
pub wakes-after : (barrier : ℕ) (m0 m1 m2 : Machine) (f : Frame) → branch_of m1 ≡ branch_of m0 → WakesOne barrier m1 m2 f → WakesOne barrier m0 m2 f
wakes-after barrier m0 m1 m2 f e h = record {
  constraint = h.constraint;
  goal = h.goal;
  first = ap up_in (sym e) ∙ h.first;
  asleep = h.asleep ∙ ap asleep_in e;
  rest = h.rest ∙ ap (λ (b : branch.Branch). record b { store = (branch_of m2).store }) e;
  valid = h.valid;
}
