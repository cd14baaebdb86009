use Rattle.std.proofs.Common.{◌∷◌, [], ap₂, ℕ, subst, get_or}
use Rattle.std.proofs.lemmas.List.{get_or_default}
use Rattle.type_terms.specs.declared.scheme.Scheme.{Scheme}
use Rattle.decl_types.specs.DeclaredTypes.{Declared}
use Rattle.decl_types.specs.inside.Tables.{Gains}
use Rattle.decl_types.proofs.Lists.{no-name}
use Rattle.decl_types.proofs.Tables.{gains-names}
use Rattle.decl_types.proofs.table.declare_all.Goals as goal

pub loop-name-preserved : goal.loop-name-preserved
loop-name-preserved c =
    let i = c.loop-name.name-index in
    let x = get_or c.args.names.now i no-name in
    let made : ℕ → Scheme → Declared = λ v s. record { name = x.sym.0; type = record { variables = v; scheme = s } } in
    gains-names c.args.table.now.items c.loop-name.table.items c.declare.new.table.items c.args.ty.now c.args.names.now i x c.loop-name-test.true
    (get_or_default c.args.names.now i no-name x c.loop-name-test.true) c.loop-name.invariant
    (subst (λ (d : Declared). Gains c.loop-name.table.items c.declare.new.table.items (d ∷ [])) (ap₂ made c.in_ok-variables.ensures c.in_ok-scheme.ensures) c.declare.ensures)
