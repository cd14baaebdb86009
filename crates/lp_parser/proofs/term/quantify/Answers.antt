use Rattle.std.proofs.Common.{◌≡◌, List, [], ◌∷◌, ◌++◌, refl, ap, Bool, arith}
use Rattle.std.proofs.lemmas.Grind.{common_steps}
use Rattle.lp_parser.specs.declared.ast.Place.{Place}
use Rattle.lp_parser.specs.declared.ast.Word.{Word}
use Rattle.lp_parser.specs.declared.ast.AstTerm.{AstTerm}
use Rattle.lp_parser.specs.declared.ast.AstTerm.TheVariants as term
use Rattle.lp_parser.specs.Grammar.{quantified}
use Rattle.lp_parser.proofs.term.quantify.Goals as goal

last_word : (q : Bool) (p : Place) (xs : List Word) (x : Word) (t : AstTerm)
    → quantified q p (xs ++ x ∷ []) t ≡ quantified q p xs (term.Quant q p (term.Bind x.text x.place t))
last_word q p [] x t = refl
last_word q p (y ∷ ys) x t = ap (λ z. term.Quant q p (term.Bind y.text y.place z)) (last_word q p ys x t)

pub loop-word-preserved : goal.loop-word-preserved
loop-word-preserved c = grind (arith, common_steps, last_word)
