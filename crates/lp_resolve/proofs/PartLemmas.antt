-- Terms and variables that were read as parts.
use Rattle.std.proofs.Common.{◌≡◌, ◌∙◌, ℕ, List, [], ap, sym, subst}
use Rattle.lp_parser.specs.declared.ast.AstTerm.{AstTerm}
use Rattle.lp_parser.specs.declared.ast.Word.{Word}
use Rattle.ref_terms.specs.declared.tree.Tree.{Tree}
use Rattle.lp_resolve.specs.Symbols.{number_of, interned, Begins}
use Rattle.lp_resolve.specs.Variables.{Met, number_in, met_word}
use Rattle.lp_resolve.specs.Reading.{Reading}
use Rattle.lp_resolve.specs.Reads.{IsRead}
use Rattle.lp_resolve.specs.Treed.{tree_of}
use Rattle.lp_resolve.specs.ProgramReading.{Read, read_tree, read_variable}
use Rattle.lp_resolve.specs.inside.ReadsAs.{ReadsAs}
use Rattle.lp_resolve.proofs.BeginsLemmas.{number-later}
use Rattle.lp_resolve.proofs.TreeOf.{tree_of-as_term}

-- a term
pub term-read : (table : List (List ℕ)) (met after : Met) (t : AstTerm) (tree : Tree) → IsRead table [] met t after tree → ReadsAs read_tree table met t tree after
term-read table met after t tree it = record {
  is = λ later b.
      ap (λ (r : Reading). record { value = tree_of r.term; met = r.met }) (it.reads later b)
      ∙ ap (λ (u : Tree). record { value = u; met = after }) (tree_of-as_term tree it.fits);
}

-- a variable outside terms
pub variable-read : (table next : List (List ℕ)) (met after : Met) (w : Word) (number : ℕ)
    → next ≡ interned table w.text → number ≡ number_in met.names (number_of next w.text) → after ≡ met_word (number_of next w.text) w.place met
    → ReadsAs read_variable next met w number after
variable-read table next met after w number grown n m = record {
  is = λ later b.
      let same = number-later table w.text later (subst (λ t. Begins t later) grown b) ∙ ap (λ t. number_of t w.text) (sym grown) in
      ap (λ (k : ℕ). record { value = number_in met.names k; met = met_word k w.place met }) same
      ∙ ap (λ (v : ℕ). record { value = v; met = met_word (number_of next w.text) w.place met }) (sym n)
      ∙ ap (λ (a : Met). record { value = number; met = a }) (sym m);
}
