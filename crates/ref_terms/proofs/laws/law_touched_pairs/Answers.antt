use Rattle.std.proofs.Common.{length, arith}
use Rattle.ref_terms.specs.unification.Unification.{unify}
use Rattle.ref_terms.proofs.search.UnifyFair.{unify-fair}
use Rattle.ref_terms.proofs.search.TouchedLemmas as lemmas
use Rattle.ref_terms.proofs.laws.law_touched_pairs.Goals as goal

pub returns-clause-first : goal.returns-clause-first
returns-clause-first c = λ branch pairs rs w. lemmas.first-touched-is-first unify branch pairs 0 rs w

pub returns-clause-bindings : goal.returns-clause-bindings
returns-clause-bindings c = λ branch bs n high pairs more rs keeps told w. lemmas.touched-after-bindings unify unify-fair branch bs n high pairs more (length rs) keeps told 0 rs (omega arith) w

pub returns-clause-renaming : goal.returns-clause-renaming
returns-clause-renaming c = λ branch v u n high low low' pairs more rs keeps met w. lemmas.touched-after-renaming unify unify-fair branch v u n high low low' pairs more (length rs) keeps met 0 rs (omega arith) w

pub returns-clause-adding : goal.returns-clause-adding
returns-clause-adding c = λ branch pairs more d rs keeps new w. lemmas.touched-after-adding unify branch pairs more d (length rs) keeps new 0 rs (omega arith) w

pub returns-clause-leaving : goal.returns-clause-leaving
returns-clause-leaving c = λ branch pairs stays rs w. lemmas.touched-after-leaving unify branch pairs stays 0 rs w

pub returns-clause-firing : goal.returns-clause-firing
returns-clause-firing c = λ branch pairs f rs w. lemmas.touched-after-firing unify branch pairs f 0 rs w

pub returns-clause-dropping : goal.returns-clause-dropping
returns-clause-dropping c = λ branch pairs fewer rs w u. lemmas.touched-after-dropping unify branch pairs fewer 0 rs w u

pub returns-clause-rule : goal.returns-clause-rule
returns-clause-rule c = λ branch barrier f high below pairs rs w. lemmas.touched-after-rule unify unify-fair branch barrier f high below pairs rs w

pub returns-clause-waking : goal.returns-clause-waking
returns-clause-waking c = λ branch barrier up pairs rs w. lemmas.touched-after-waking unify branch barrier up pairs rs w

pub returns-clause-renamed : goal.returns-clause-renamed
returns-clause-renamed c = λ branch p good pairs rs w. lemmas.touched-renamed unify unify-fair branch p good pairs 0 rs w
