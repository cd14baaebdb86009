use Rattle.std.proofs.Common.{◌≡◌, [], map, take}
use Rattle.lp_resolve.specs.Symbols.{Begins, interned_all}
use Rattle.lp_resolve.specs.ProgramReading.{symbol_of}
use Rattle.lp_resolve.proofs.PutLemmas.{HavePut}
use Rattle.lp_resolve.proofs.items.read_names.Given as goal

abbrev pub invariant-loop-word : goal.invariant-loop-word
invariant-loop-word l = record {
  begins : Begins l.initial.symbols l.symbols;
  table : l.symbols ≡ interned_all l.initial.symbols (map (λ w. w.text) (take l.word-index l.words));
  names : HavePut (λ later. map (symbol_of later)) l.symbols [] (take l.word-index l.words) l.names.items;
}
