use Rattle.suspend.proofs.EventLemmas as lemmas
use Rattle.suspend.proofs.laws.law_events.Goals as goal

pub returns-clause-joining : goal.returns-clause-joining
returns-clause-joining c s = lemmas.after-joining _

pub returns-clause-leaving : goal.returns-clause-leaving
returns-clause-leaving c s = lemmas.after-leaving _

pub returns-clause-firing : goal.returns-clause-firing
returns-clause-firing c s = lemmas.after-firing _

pub returns-clause-row : goal.returns-clause-row
returns-clause-row c s = lemmas.after-row _

pub returns-clause-waiting : goal.returns-clause-waiting
returns-clause-waiting c s = lemmas.after-waiting _

pub returns-clause-doubting : goal.returns-clause-doubting
returns-clause-doubting c s = lemmas.after-doubting _

pub returns-clause-looking : goal.returns-clause-looking
returns-clause-looking c s = lemmas.after-looking _

pub returns-clause-resting : goal.returns-clause-resting
returns-clause-resting c s = lemmas.after-resting _
