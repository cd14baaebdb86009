use Rattle.std.proofs.Common.{ℕ, refl, sym, subst}
use Rattle.std.proofs.Common.{rules}
use Rattle.std.proofs.lemmas.Int.{to_z-of_z}
use mir.Val.{SFits}
use mir.Syntax.{w64}
use Rattle.std.specs.Result.{IfOk}
use Rattle.beta_fragment.specs.inside.Quoting.{IsHeadOf, Quotes}
use Rattle.std.proofs.lemmas.Result.{IfOk-weaker}
use Rattle.ref_terms.specs.terms.Term as term
use Rattle.ref_terms.specs.terms.Term.{At}
use Rattle.beta_fragment.specs.declared.answer.RigidHead.{RigidHead}
use Rattle.beta_fragment.specs.declared.answer.RigidHead.TheVariants.{Con, Int, Str}
use Rattle.beta_fragment.specs.HeadForm.{rigid_head}
use Rattle.beta_fragment.specs.Quoted.{AllNamesBelow, names_with, put_head}
use Rattle.level_terms.specs.Values.{value_of}
use Rattle.beta_fragment.proofs.QuoteLemmas.{quotes-rigid}
use Rattle.beta_fragment.proofs.quoting.rigid_node.Goals as goal

pub name_node-requires-clause-named : goal.name_node-requires-clause-named
name_node-requires-clause-named c = subst (λ (h : RigidHead). AllNamesBelow (names_with c.args.depth c.args.put) (At (rigid_head h))) c.in-Level.is c.requires.named

pub returns-in-Level-clause-quotes : goal.returns-in-Level-clause-quotes
returns-in-Level-clause-quotes c =
    subst (λ (h : RigidHead). IfOk c.name_node.result (λ r. (under : ℕ) → Quotes (put_head c.args.heap.now c.args.depth c.args.put) c.args.depth under (At (rigid_head h)) (value_of c.name_node.new.heap r)))
    (sym c.in-Level.is) c.name_node.ensures.quotes

pub returns-in-Con-clause-quotes : goal.returns-in-Con-clause-quotes
returns-in-Con-clause-quotes c = IfOk-weaker c.made_con.result _ _
    (λ r w under. quotes-rigid c.args.heap.now c.args.depth c.args.put under c.args.head (Con c.in-Con.c) (value_of c.made_con.new.heap r) c.in-Con.is tt refl w) c.made_con.ensures.head

pub returns-in-Int-clause-quotes : goal.returns-in-Int-clause-quotes
returns-in-Int-clause-quotes c =
    let fits : SFits w64 c.in-Int.n = search rules in
    IfOk-weaker c.made_int.result _ _
    (λ r w under. quotes-rigid c.args.heap.now c.args.depth c.args.put under c.args.head (Int c.in-Int.n) (value_of c.made_int.new.heap r) c.in-Int.is tt refl
    (subst (λ z. IsHeadOf (term.Int z) (value_of c.made_int.new.heap r)) (to_z-of_z w64 c.in-Int.n fits) w)) c.made_int.ensures.head

pub returns-in-Str-clause-quotes : goal.returns-in-Str-clause-quotes
returns-in-Str-clause-quotes c = IfOk-weaker c.made_text.result _ _
    (λ r w under. quotes-rigid c.args.heap.now c.args.depth c.args.put under c.args.head (Str c.in-Str.s) (value_of c.made_text.new.heap r) c.in-Str.is tt refl w) c.made_text.ensures.head
