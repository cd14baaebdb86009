-- Clauses on what a call answers.
use Rattle.std.specs.Prelude.{Ok, Err, OnOk, OnErr}
use Rattle.std.specs.declared.result.Result.{Result}

module _ {A E : Type 0} where
  -- what follows where it is ok, and where it isn't
  pub on-ok : (r : Result A E) (P Q : Type 0) → (P → Q) → OnOk r P → OnOk r Q
  on-ok (Ok a) P Q f w = f w
  on-ok (Err e) P Q f w = tt

  pub on-err : (r : Result A E) (P Q : Type 0) → (P → Q) → OnErr r P → OnErr r Q
  on-err (Ok a) P Q f w = tt
  on-err (Err e) P Q f w = f w

  pub on-ok-any : (r : Result A E) (Q : Type 0) → Q → OnOk r Q
  on-ok-any (Ok a) Q w = w
  on-ok-any (Err e) Q w = tt

  pub on-err-any : (r : Result A E) (Q : Type 0) → Q → OnErr r Q
  on-err-any (Ok a) Q w = tt
  on-err-any (Err e) Q w = w

  -- what follows either way
  pub by-result : (r : Result A E) (P Q R : Type 0) → (P → R) → (Q → R) → OnOk r P → OnErr r Q → R
  by-result (Ok a) P Q R f g u w = f u
  by-result (Err e) P Q R f g u w = g w
