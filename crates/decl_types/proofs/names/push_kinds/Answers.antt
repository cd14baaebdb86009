use Rattle.std.proofs.Common.{◌∙◌, ap, Bool, get_or}
use Rattle.std.proofs.lemmas.List.{get_or_default}
use Rattle.decl_types.specs.TypeRules.{kind_name, is_word}
use Rattle.decl_types.specs.declared.names.DeclaredName.{DeclaredName}
use Rattle.decl_types.proofs.Lists.{no-name, mapped-more}
use Rattle.decl_types.proofs.names.push_kinds.Goals as goal

pub loop-name-preserved : goal.loop-name-preserved
loop-name-preserved c =
    let i = c.loop-name.name-index in
    let x = get_or c.args.declared.now i no-name in
    let made : Bool → DeclaredName = λ b. record { name = x; refused = b } in
    mapped-more (kind_name c.args.symbols.now) c.args.names.now.items c.loop-name.names.items c.push.new.self.items c.args.declared.now i x
    (made c.is_word.result) c.loop-name-test.true (get_or_default c.args.declared.now i no-name x c.loop-name-test.true)
    (ap made (c.is_word.ensures ∙ ap is_word c.text_of.ensures)) c.loop-name.invariant c.in_ok-push.ensures.items
