-- What a call may change, and undoing it.
use Rattle.std.proofs.Common.{◌≡◌, ℕ, ◌≤◌, ◌+◌, ◌-◌, List, [], ◌∷◌, ◌++◌, map, reverse, length, drop, take, refl, sym, ap, ◌∙◌, arith, length-append, length-drop, subst}
use Rattle.std.proofs.Math.Seq.{drop-append-add}
use Rattle.std.proofs.lemmas.List.{take-append-le, take-take, take-append-drop, length-take-le, map-append, reverse-append, length-map, length-reverse, append_assoc, append-nil}
use Rattle.level_terms.specs.declared.node.Node.{Node}
use Rattle.level_terms.specs.declared.node.Change.{Change}
use Rattle.level_terms.specs.declared.node.HeapMark.{HeapMark}
use Rattle.level_terms.specs.Graph.{Graph, Assigned}
use Rattle.level_terms.specs.Sound.{IsSound, AllMade, AllAssigned}
use Rattle.level_terms.specs.Growth.{Grows, changes_of, change_of}
use Rattle.level_terms.specs.Undo.{undone, mark_of, IsTrailOf, IsWithin, CanUndo}

changes-append : (a b : List Assigned) → changes_of (a ++ b) ≡ changes_of b ++ changes_of a
changes-append a b = ap reverse (map-append change_of a b) ∙ reverse-append (map change_of a) (map change_of b)

pub changes-length : (a : List Assigned) → length (changes_of a) ≡ length a
changes-length a = length-reverse (map change_of a) ∙ length-map a change_of

pub grows-refl : (g : Graph) (noted : List Change) → Grows g g noted noted
grows-refl g noted = record { new_nodes = []; new_depths = []; new_assigned = []; nodes = refl; depths = sym (append-nil g.depths); assigned = refl; trail = sym (append-nil noted) }

-- no change at all is a growth
pub grows-same : (g h : Graph) (noted : List Change) → h ≡ g → Grows g h noted noted
grows-same g h noted e = subst (λ z. Grows g z noted noted) (sym e) (grows-refl g noted)

pub grows-node : (g h : Graph) (n : Node) → h ≡ record g { nodes = n ∷ g.nodes } → Grows g h [] []
grows-node g h n e = subst (λ z. Grows g z [] []) (sym e) (record { new_nodes = n ∷ []; new_depths = []; new_assigned = []; nodes = refl; depths = sym (append-nil g.depths); assigned = refl; trail = refl })

pub grows-variable : (g h : Graph) (d : ℕ) → h ≡ record g { depths = g.depths ++ d ∷ [] } → Grows g h [] []
grows-variable g h d e = subst (λ z. Grows g z [] []) (sym e) (record { new_nodes = []; new_depths = d ∷ []; new_assigned = []; nodes = refl; depths = refl; assigned = refl; trail = refl })

pub grows-assigned : (g h : Graph) (a : Assigned) (s t : List Change) → h ≡ record g { assigned = a ∷ g.assigned } → t ≡ s ++ change_of a ∷ [] → Grows g h s t
grows-assigned g h a s t e q = subst (λ z. Grows g z s t) (sym e) (record { new_nodes = []; new_depths = []; new_assigned = a ∷ []; nodes = refl; depths = sym (append-nil g.depths); assigned = refl; trail = q })

pub grows-trans : (f g h : Graph) (r s t : List Change) → Grows f g r s → Grows g h s t → Grows f h r t
grows-trans f g h r s t v w = record {
  new_nodes = w.new_nodes ++ v.new_nodes;
  new_depths = v.new_depths ++ w.new_depths;
  new_assigned = w.new_assigned ++ v.new_assigned;
  nodes = w.nodes ∙ ap (λ xs. w.new_nodes ++ xs) v.nodes ∙ sym (append_assoc w.new_nodes v.new_nodes f.nodes);
  depths = w.depths ∙ ap (λ xs. xs ++ w.new_depths) v.depths ∙ append_assoc f.depths v.new_depths w.new_depths;
  assigned = w.assigned ∙ ap (λ xs. w.new_assigned ++ xs) v.assigned ∙ sym (append_assoc w.new_assigned v.new_assigned f.assigned);
  trail = w.trail ∙ ap (λ xs. xs ++ changes_of w.new_assigned) v.trail ∙ append_assoc r (changes_of v.new_assigned) (changes_of w.new_assigned) ∙ ap (λ xs. r ++ xs) (sym (changes-append w.new_assigned v.new_assigned));
}

pub grows-notes : (g h : Graph) (noted : List Change) → Grows g h [] [] → Grows g h noted noted
grows-notes g h noted w = record {
  new_nodes = w.new_nodes;
  new_depths = w.new_depths;
  new_assigned = w.new_assigned;
  nodes = w.nodes;
  depths = w.depths;
  assigned = w.assigned;
  trail = sym (append-nil noted) ∙ ap (λ xs. noted ++ xs) w.trail;
}

pub keeps_trail : (g h : Graph) (s t : List Change) → Grows g h s t → IsTrailOf g s → IsTrailOf h t
keeps_trail g h s t w own = w.trail ∙ ap (λ xs. xs ++ changes_of w.new_assigned) own ∙ sym (changes-append w.new_assigned g.assigned) ∙ ap changes_of (sym w.assigned)

-- dropping what was added in front, and some more
drop-past : {A : Type 0} (xs ys zs : List A) (k : ℕ) → zs ≡ xs ++ ys → k ≤ length ys → drop (length zs - k) zs ≡ drop (length ys - k) ys
drop-past xs ys zs k e h =
    let n : length (xs ++ ys) - k ≡ length xs + (length ys - k) = omega (arith, length-append xs ys, h) in
    ap (λ l. drop (length l - k) l) e ∙ ap (λ m. drop m (xs ++ ys)) n ∙ drop-append-add xs ys (length ys - k)

pub ignores_growth : (g h : Graph) (s t : List Change) (m : HeapMark) → Grows g h s t → IsWithin m g → undone m h ≡ undone m g
ignores_growth g h s t m w v =
    let a = drop-past w.new_nodes g.nodes h.nodes m.nodes w.nodes v.nodes in
    let b = ap (take m.variables) w.depths ∙ take-append-le m.variables g.depths w.new_depths v.variables in
    let c = drop-past w.new_assigned g.assigned h.assigned m.entries w.assigned v.entries in
    λ i. record { nodes = a i; depths = b i; assigned = c i }

pub ignores_notes : (g h : Graph) (s t : List Change) (m : HeapMark) → Grows g h s t → CanUndo m g s → take m.entries t ≡ take m.entries s
ignores_notes g h s t m w v =
    let long : m.entries ≤ length s = (let e = ap length v.own in omega (arith, e, changes-length g.assigned, v.within.entries)) in
    ap (take m.entries) w.trail ∙ take-append-le m.entries s (changes_of w.new_assigned) long

pub keeps_marks : (g h : Graph) (s t : List Change) (m : HeapMark) → Grows g h s t → CanUndo m g s → CanUndo m h t
keeps_marks g h s t m w v =
    let same = sym (ignores_growth g h s t m w v.within) in
    record {
      own = keeps_trail g h s t w v.own;
      within = record {
        nodes = omega (arith, v.within.nodes, ap length w.nodes, length-append w.new_nodes g.nodes);
        variables = omega (arith, v.within.variables, ap length w.depths, length-append g.depths w.new_depths);
        entries = omega (arith, v.within.entries, ap length w.assigned, length-append w.new_assigned g.assigned);
      };
      closed = record {
        nodes = subst (λ z. AllMade m.variables z.nodes) same v.closed.nodes;
        assigned = subst (λ z. AllAssigned m.nodes m.variables z.assigned) same v.closed.assigned;
      };
    }

drop-none : {A : Type 0} (xs : List A) → drop (length xs - length xs) xs ≡ xs
drop-none xs = let n : length xs - length xs ≡ 0 = omega arith in ap (λ k. drop k xs) n

take-whole : {A : Type 0} (xs : List A) → take (length xs) xs ≡ xs
take-whole [] = refl
take-whole {A} (x ∷ xs) = ap (λ (zs : List A). x ∷ zs) (take-whole xs)

pub undo_now : (g : Graph) → undone (mark_of g) g ≡ g
undo_now g =
    let a = drop-none g.nodes in
    let b = take-whole g.depths in
    let c = drop-none g.assigned in
    λ i. record { nodes = a i; depths = b i; assigned = c i }

pub marks_can : (g : Graph) (noted : List Change) → IsSound g → IsTrailOf g noted → CanUndo (mark_of g) g noted
marks_can g noted s own =
    let same = sym (undo_now g) in
    record {
      own = own;
      within = record { nodes = omega arith; variables = omega arith; entries = omega arith };
      closed = record {
        nodes = subst (λ z. AllMade (length g.depths) z.nodes) same s.made;
        assigned = subst (λ z. AllAssigned (length g.nodes) (length g.depths) z.assigned) same s.assigned;
      };
    }

-- the oldest ones of a list, of the oldest ones
oldest-oldest : {A : Type 0} (a b : ℕ) (xs : List A) → a ≤ b → b ≤ length xs → drop (length (drop (length xs - b) xs) - a) (drop (length xs - b) xs) ≡ drop (length xs - a) xs
oldest-oldest a b xs h k =
    let parts = take-append-drop (length xs - b) xs in
    let long = length-drop (length xs - b) xs in
    sym (drop-past (take (length xs - b) xs) (drop (length xs - b) xs) xs a (sym parts) (omega (arith, long, h, k)))

-- the earlier mark of two isn't past the later one
mark-below : (a b : HeapMark) (g : Graph) → IsWithin b g → IsWithin a (undone b g) → (a.nodes ≤ b.nodes) × (a.variables ≤ b.variables) × (a.entries ≤ b.entries)
mark-below a b g v w = (
  omega (arith, w.nodes, v.nodes, length-drop (length g.nodes - b.nodes) g.nodes),
  omega (arith, w.variables, v.variables, length-take-le b.variables g.depths v.variables),
  omega (arith, w.entries, v.entries, length-drop (length g.assigned - b.entries) g.assigned),
)

pub earlier_within : (a b : HeapMark) (g : Graph) → IsWithin b g → IsWithin a (undone b g) → IsWithin a g
earlier_within a b g v w =
    let le = mark-below a b g v w in
    record { nodes = omega (arith, le.0, v.nodes); variables = omega (arith, le.1, v.variables); entries = omega (arith, le.2, v.entries) }

pub undo_twice : (a b : HeapMark) (g : Graph) → IsWithin b g → IsWithin a (undone b g) → undone a (undone b g) ≡ undone a g
undo_twice a b g v w =
    let le = mark-below a b g v w in
    let nodes = oldest-oldest a.nodes b.nodes g.nodes le.0 v.nodes in
    let depths = take-take a.variables b.variables g.depths le.1 in
    let assigned = oldest-oldest a.entries b.entries g.assigned le.2 v.entries in
    λ i. record { nodes = nodes i; depths = depths i; assigned = assigned i }
