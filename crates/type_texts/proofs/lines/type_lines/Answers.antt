use Rattle.std.proofs.Common.{◌≡◌, ◌∙◌, ◌<◌, ℕ, List, Vec, Global, length, map, All, ap, sym, subst}
use Rattle.decl_types.specs.DeclaredTypes.{declared_types}
use Rattle.type_check.specs.Typings.{items_of}
use Rattle.type_texts.specs.TypeLines.{type_lines}
use Rattle.type_texts.proofs.LineLemmas.{shown-within, if-ok}
use Rattle.type_texts.proofs.Principal.{principal-read}
use Rattle.type_texts.proofs.Readings.{open_at, open-reading}
use Rattle.type_texts.proofs.lines.type_lines.Goals as goal

pub lines_of-requires-clause-constants : goal.lines_of-requires-clause-constants
lines_of-requires-clause-constants c =
    let count = length c.args.symbols.now in
    let long : length c.as_slice.result.now ≡ count = ap (λ (ks : List ℕ). length ks) c.as_slice.ensures.value ∙ c.requires.principal.each in
    let within = shown-within count (declared_types count c.args.decls.now) c.args.program.now c.in_ok-constants.constants.items c.in_ok-constants.ensures.each in
    subst (λ (n : ℕ). All (λ d. d < n) c.as_slice-2.result.now) (sym long)
    (subst (λ (ds : List ℕ). All (λ d. d < count) ds) (sym c.as_slice-2.ensures.value) within)

pub returns : goal.returns
returns c =
    let f = λ (line : Vec ℕ Global). line.items in
    let table = c.args.symbols.now in
    let count = length table in
    let typing = c.args.typing.now in
    let g = typing.graph in
    let u = open_at g in
    let reading = open-reading g c.len-count.ensures.sound c.len-count.ensures.acyclic in
    if-ok c.lines_of.result (λ lines written. record {
      unbroken = c.requires.unbroken;
      types = map u typing.constants.items;
      constants = c.in_ok-constants.constants.items;
      principal = principal-read (declared_types count c.args.decls.now) count (items_of c.args.program.now) typing u c.requires.principal reading;
      shown = c.in_ok-constants.ensures;
      lines_are =
          subst (λ (ds : List ℕ). map f lines.items ≡ type_lines table (map u typing.constants.items) ds) c.as_slice-2.ensures.value
          (subst (λ (ks : List ℕ). map f lines.items ≡ type_lines table (map u ks) c.as_slice-2.result.now) c.as_slice.ensures.value (written u reading));
    }) c.lines_of.ensures
