-- What a crate above cites: what a store knows of its keys stays known.
pub use Rattle.suspend.proofs.KeyLemmas.{quiet-sleeps}
pub use Rattle.suspend.proofs.EventLemmas.{after-joining, after-leaving, after-firing, after-growth, after-making, nothing-awake, growth-gains}
pub use Rattle.suspend.proofs.LogLemmas.{numbers-ascend, numbers-below, later-itself, later-later, oldest-earlier, oldest-twice}
