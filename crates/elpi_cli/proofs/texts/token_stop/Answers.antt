use Rattle.elpi_cli.proofs.texts.token_stop.Goals as goal

pub returns-in-LongName-clause-refusal : goal.returns-in-LongName-clause-refusal
returns-in-LongName-clause-refusal c = rw c.in-LongName.is c.refuse-in-LongName.ensures
