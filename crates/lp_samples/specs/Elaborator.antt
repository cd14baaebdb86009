-- The elaborator: a small dependent type theory with holes, written as a program.
use Rattle.std.specs.Prelude.{ℕ, List, [], ◌∷◌, ◌++◌, codes}

-- its lines
unfoldable pub elaborator_lines : List (List ℕ)
elaborator_lines =
    codes "% A small dependent type theory with holes."
    ∷ codes "kind term type."
    ∷ codes "type set, nat, z, s, id term."
    ∷ codes "type app term -> term -> term."
    ∷ codes "type lam term -> (term -> term) -> term."
    ∷ codes "type prod term -> (term -> term) -> term."
    ∷ codes ""
    ∷ codes "pred of i:term, o:term."
    ∷ codes "of X T :- var X, !, declare_constraint (of X T) [X]."
    ∷ codes "of nat set."
    ∷ codes "of z nat."
    ∷ codes "of s (prod nat x\\ nat)."
    ∷ codes "of id (prod set a\\ prod a x\\ a)."
    ∷ codes "of (app M N) R :- of M (prod A B), of N A, beta B N R."
    ∷ codes "of (lam A F) (prod A B) :- of A set, pi x\\ of x A => of (F x) (B x)."
    ∷ codes "of (prod A B) set :- of A set, pi x\\ of x A => of (B x) set."
    ∷ codes ""
    ∷ codes "% Two typings of one hole agree."
    ∷ codes "constraint of {"
    ∷ codes "  rule (G ?- of X T) \\ (D ?- of Y S) > X ~ Y <=> (T = S)."
    ∷ codes "}"
    ∷ codes ""
    ∷ codes "pred demo o:term."
    ∷ codes "demo M :- M = app (app id H1) (app s (app (app id H2) H3)), of M Ty, print Ty."
    ∷ codes ""
    ∷ codes "pred pick o:term."
    ∷ codes "pick red."
    ∷ codes "pick blue."
    ∷ codes ""
    ∷ codes "pred down i:int, o:term."
    ∷ codes "down 0 z."
    ∷ codes "down N (s M) :- lt 0 N, P is N - 1, pick C, down P M."
    ∷ codes ""
    ∷ codes "pred main o:term."
    ∷ []

-- lines, with a line feed after each
abbrev pub text_of_lines : List (List ℕ) → List ℕ
text_of_lines [] = []
text_of_lines (l ∷ ls) = l ++ (10 ∷ text_of_lines ls)

-- its text
unfoldable pub elaborator_text : List ℕ
elaborator_text = text_of_lines elaborator_lines
