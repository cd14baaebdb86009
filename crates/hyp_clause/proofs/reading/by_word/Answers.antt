use Rattle.std.proofs.Common.{◌≡◌, ◌∙◌, [], sym}
use Rattle.level_terms.proofs.GrowthLemmas.{grows-refl}
use Rattle.hyp_clause.specs.inside.Parts.{task_of, seen, both_of, conditional_of, implied_of, IsQuantified, IsClause, IsTurnOf}
use Rattle.hyp_clause.proofs.OkLemmas.{ok-map}
use Rattle.hyp_clause.proofs.PartLemmas.{turn-both, turn-conditional, turn-implied, turn-quantified, turn-other, turn-clause}
use Rattle.hyp_clause.proofs.reading.by_word.Goals as goal

pub returns-in-And-clause-turn : goal.returns-in-And-clause-turn
returns-in-And-clause-turn c =
    ok-map c.both.result (λ w. seen w ≡ both_of (task_of c.args.part.now) c.args.args.now) (λ w. IsTurnOf c.args.heap.now c.args.heap.now c.args.depth (task_of c.args.part.now) (seen w))
    (λ w e. turn-both c.args.heap.now c.args.depth (task_of c.args.part.now) c.args.c c.args.args.now (seen w) c.requires (sym c.word_at.ensures ∙ c.in-And.is) e) c.both.ensures

pub returns-in-And-clause-grows : goal.returns-in-And-clause-grows
returns-in-And-clause-grows c = grows-refl c.args.heap.now []

pub returns-in-If-clause-turn : goal.returns-in-If-clause-turn
returns-in-If-clause-turn c =
    ok-map c.conditional.result (λ w. seen w ≡ conditional_of (task_of c.args.part.now) c.args.args.now) (λ w. IsTurnOf c.args.heap.now c.args.heap.now c.args.depth (task_of c.args.part.now) (seen w))
    (λ w e. turn-conditional c.args.heap.now c.args.depth (task_of c.args.part.now) c.args.c c.args.args.now (seen w) c.requires (sym c.word_at.ensures ∙ c.in-If.is) e) c.conditional.ensures

pub returns-in-If-clause-grows : goal.returns-in-If-clause-grows
returns-in-If-clause-grows c = grows-refl c.args.heap.now []

pub returns-in-Implies-clause-turn : goal.returns-in-Implies-clause-turn
returns-in-Implies-clause-turn c =
    ok-map c.implied.result (λ w. seen w ≡ implied_of (task_of c.args.part.now) c.args.args.now) (λ w. IsTurnOf c.args.heap.now c.args.heap.now c.args.depth (task_of c.args.part.now) (seen w))
    (λ w e. turn-implied c.args.heap.now c.args.depth (task_of c.args.part.now) c.args.c c.args.args.now (seen w) c.requires (sym c.word_at.ensures ∙ c.in-Implies.is) e) c.implied.ensures

pub returns-in-Implies-clause-grows : goal.returns-in-Implies-clause-grows
returns-in-Implies-clause-grows c = grows-refl c.args.heap.now []

pub returns-in-Pi-clause-turn : goal.returns-in-Pi-clause-turn
returns-in-Pi-clause-turn c =
    ok-map c.quantified.result (λ w. IsQuantified c.args.heap.now c.quantified.new.heap c.args.depth (task_of c.args.part.now) c.args.args.now (seen w)) (λ w. IsTurnOf c.args.heap.now c.quantified.new.heap c.args.depth (task_of c.args.part.now) (seen w))
    (λ w e. turn-quantified c.args.heap.now c.quantified.new.heap c.args.depth (task_of c.args.part.now) c.args.c c.args.args.now (seen w) c.is_sound.ensures c.quantified.ensures.grows c.requires (sym c.word_at.ensures ∙ c.in-Pi.is) e) c.quantified.ensures.turn

pub returns-in-Other-clause-turn : goal.returns-in-Other-clause-turn
returns-in-Other-clause-turn c = turn-other c.args.heap.now c.args.depth (task_of c.args.part.now) c.args.c c.args.args.now c.requires (sym c.word_at.ensures ∙ c.in-Other.is)

pub returns-in-Other-clause-grows : goal.returns-in-Other-clause-grows
returns-in-Other-clause-grows c = grows-refl c.args.heap.now []

pub returns-in-Free-clause-turn : goal.returns-in-Free-clause-turn
returns-in-Free-clause-turn c =
    ok-map c.clause.result (λ w. IsClause c.args.heap.now c.clause.new.heap c.args.depth (task_of c.args.part.now) c.args.c (seen w)) (λ w. IsTurnOf c.args.heap.now c.clause.new.heap c.args.depth (task_of c.args.part.now) (seen w))
    (λ w e. turn-clause c.args.heap.now c.clause.new.heap c.args.depth (task_of c.args.part.now) c.args.c c.args.args.now (seen w) c.is_sound.ensures c.clause.ensures.grows c.requires (sym c.word_at.ensures ∙ c.in-Free.is) e) c.clause.ensures.turn
