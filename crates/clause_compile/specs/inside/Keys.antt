-- Keys of clauses, by the predicates of the code.
use Rattle.std.specs.Prelude.{ℕ, Bool, List, [], ◌∷◌, Option, Some, None, unwrap_or}
use Rattle.ref_terms.specs.terms.Built.{IsBuilt}
use Rattle.ref_terms.specs.unification.Spine.{args_of, head_of}
use Rattle.ref_terms.specs.search.Program.{Clause, constant_of}
use Rattle.lp_resolve.specs.declared.program.Pred.{Pred}
use Rattle.lp_resolve.specs.Preds.{pred_at}
use Rattle.clause_key.specs.declared.key.Key.{Key}
use Rattle.clause_key.specs.Keys.{key_among}
use Rattle.clause_compile.specs.Programs.{inputs_of}

-- the inputs of a constant
abbrev pub inputs_at : List (ℕ × Pred) → Option ℕ → Option (List Bool)
inputs_at preds (Some c) = inputs_of (pred_at c preds)
inputs_at preds None = None

-- the key of a clause
abbrev pub key_in : List (ℕ × Pred) → Clause → Key
key_in preds k = key_among (unwrap_or (inputs_at preds (constant_of (head_of k.head))) []) (args_of k.head)

-- each clause's head is built
abbrev pub AllHeadsBuilt : List Clause → Type 0
AllHeadsBuilt [] = Unit {0}
AllHeadsBuilt (k ∷ ks) = IsBuilt k.head × AllHeadsBuilt ks
