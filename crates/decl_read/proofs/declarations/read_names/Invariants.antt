use Rattle.std.proofs.Common.{◌≡◌, [], map, take}
use Rattle.lp_resolve.specs.Symbols.{Begins, interned_all}
use Rattle.lp_resolve.proofs.PutLemmas.{HavePut}
use Rattle.decl_read.specs.DeclReading.{placed}
use Rattle.decl_read.proofs.declarations.read_names.Given as goal

abbrev pub invariant-loop-word : goal.invariant-loop-word
invariant-loop-word l = record {
  begins : Begins l.initial.symbols l.symbols;
  table : l.symbols ≡ interned_all l.initial.symbols (map (λ w. w.text) (take l.word-index l.words));
  names : HavePut (λ later. map (placed later)) l.symbols [] (take l.word-index l.words) l.names;
}
