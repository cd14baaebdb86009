-- What holds where a call answers.
use Rattle.std.specs.Prelude.{Result, Ok, Err, IfOk}

pub ok-map : {A E : Type 0} (r : Result A E) (P Q : A → Type 0) → ((a : A) → P a → Q a) → IfOk r P → IfOk r Q
ok-map (Ok a) P Q f w = f a w
ok-map (Err e) P Q f w = tt
