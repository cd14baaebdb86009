-- What a caller cites of keys.
pub use Rattle.clause_key.proofs.ClashLemmas.{disagreeing-clashes, disagreeing-stripped, disagreeing, constant-at, atom-key, instance-args}
pub use Rattle.clause_key.proofs.PassLemmas.{passing-resolves, passing-strips}
pub use Rattle.clause_key.proofs.ArgumentLemmas.{argument-map, argument-holds}
pub use Rattle.clause_key.proofs.FormLemmas.{key-headed}
pub use Rattle.clause_key.proofs.AssumptionLemmas.{disagreeing-assumption, fixed-same}
