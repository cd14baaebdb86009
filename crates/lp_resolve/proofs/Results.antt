-- What holds of a result.
use Rattle.std.specs.Prelude.{Ok, Err, IfOk, OnOk}
use Rattle.std.specs.declared.result.Result.{Result}

module _ {A E : Type 0} where
  -- another fact of the same value
  pub if-ok : (r : Result A E) (P Q : A → Type 0) → ((x : A) → P x → Q x) → IfOk r P → IfOk r Q
  if-ok (Ok x) P Q f h = f x h
  if-ok (Err e) P Q f h = tt

  -- two facts of the same value
  pub if-ok-two : (r : Result A E) (P P' Q : A → Type 0) → ((x : A) → P x → P' x → Q x) → IfOk r P → IfOk r P' → IfOk r Q
  if-ok-two (Ok x) P P' Q f h k = f x h k
  if-ok-two (Err e) P P' Q f h k = tt

  -- another fact where there is a value
  pub on-ok : (r : Result A E) (P Q : Type 0) → (P → Q) → OnOk r P → OnOk r Q
  on-ok (Ok x) P Q f h = f h
  on-ok (Err e) P Q f h = tt

  -- a fact that holds anyway
  pub on-ok-any : (r : Result A E) (Q : Type 0) → Q → OnOk r Q
  on-ok-any (Ok x) Q h = h
  on-ok-any (Err e) Q h = tt
