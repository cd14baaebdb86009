use Rattle.level_terms.proofs.GrowthLemmas as lemmas
use Rattle.level_terms.proofs.laws.law_undo.Goals as goal

pub returns-clause-marks : goal.returns-clause-marks
returns-clause-marks c = lemmas.keeps_marks

pub returns-clause-heap : goal.returns-clause-heap
returns-clause-heap c = lemmas.ignores_growth

pub returns-clause-trail : goal.returns-clause-trail
returns-clause-trail c = lemmas.ignores_notes

pub returns-clause-begins : goal.returns-clause-begins
returns-clause-begins c = lemmas.marks_can

pub returns-clause-now : goal.returns-clause-now
returns-clause-now c = lemmas.undo_now
