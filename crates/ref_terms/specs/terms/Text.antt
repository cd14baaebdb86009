-- The terms of a text: they stay as they are read, so no text grows when it is read.
use Rattle.std.specs.Prelude.{◌≡◌, Bool, true, false, cond, List, [], ◌∷◌, None}
use Rattle.ref_terms.specs.terms.Term.{Head, Con, Int, Str, Name, Bound, Var, Term, Lam, At, App}
use Rattle.ref_terms.specs.terms.Index.{sub, first}
use Rattle.ref_terms.specs.terms.Eta.{eta}

-- a name or a bound index
abbrev pub bare_head : Head → Bool
bare_head (Con c) = false
bare_head (Int n) = false
bare_head (Str s) = false
bare_head (Name n) = true
bare_head (Bound i) = true
bare_head (Var v) = false

-- a name or a bound index without arguments
abbrev pub bare : Term → Bool
bare (Lam b) = false
bare (At h) = bare_head h
bare (App f a) = false

-- an abstraction is opened with a bare argument and stays before another; each other term gets one more argument
abbrev pub text_apply : Term → Term → Term
text_apply (Lam b) s = cond (bare s) (sub (first s) b) (App (Lam b) s)
text_apply (At h) s = App (At h) s
text_apply (App f a) s = App (App f a) s

-- a term so applied to arguments, from the left
abbrev pub text_apply_all : Term → List Term → Term
text_apply_all t [] = t
text_apply_all t (a ∷ rest) = text_apply_all (text_apply t a) rest

-- an abstraction stands before an argument only where that isn't bare
abbrev pub IsTextStuck : Term → Term → Type 0
IsTextStuck (Lam b) a = bare a ≡ false
IsTextStuck (At h) a = Unit {0}
IsTextStuck (App f b) a = Unit {0}

-- so throughout, and no abstraction can be contracted by η: a term that is built as those of a text are
abbrev pub IsTextBuilt : Term → Type 0
IsTextBuilt (Lam b) = IsTextBuilt b × (eta b ≡ None)
IsTextBuilt (At h) = Unit {0}
IsTextBuilt (App f a) = IsTextBuilt f × IsTextBuilt a × IsTextStuck f a
