-- What follows from an answer.
use Rattle.std.proofs.Common.{◌≡◌, Bool, true, false, Result, Ok, Err, IfOk, subst}
use Rattle.type_graph.specs.inside.Reach.{OnTrue, OnFalse}

-- whichever the answer is
pub either : {E : Type 0} (r : Result Bool E) (P Q : Type 0) (J : Bool → Type 0) → IfOk r (λ b. OnTrue b P) → IfOk r (λ b. OnFalse b Q) → (P → J true) → (Q → J false) → IfOk r J
either (Ok true) P Q J p q f g = f p
either (Ok false) P Q J p q f g = g q
either (Err e) P Q J p q f g = tt

-- where it is yes
pub if-yes : {E : Type 0} (r : Result Bool E) (P Q : Type 0) → IfOk r (λ b. OnTrue b P) → (P → Q) → IfOk r (λ b. OnTrue b Q)
if-yes (Ok true) P Q p f = f p
if-yes (Ok false) P Q p f = tt
if-yes (Err e) P Q p f = tt

pub on-false : (b : Bool) (P : Type 0) → b ≡ false → OnFalse b P → P
on-false b P e = subst (λ c. OnFalse c P) e

pub on-true : (b : Bool) (P : Type 0) → b ≡ true → OnTrue b P → P
on-true b P e = subst (λ c. OnTrue c P) e
