use Rattle.farm_store.proofs.kept.KeptRowStored.of.Goals as goal

pub returns-clause-reads : goal.returns-clause-reads
returns-clause-reads c = (
  record { caller = c.in_ok-word_at.ensures.0; key = c.in_ok-word_at-2.ensures.0 },
  (c.in_ok-word_at.ensures.1, (c.in_ok-word_at-2.ensures.1, (c.in_ok-number_at.ensures.1, (c.in_ok-number_at-2.ensures.1, (c.in_ok-number_at-3.ensures.1, (c.in_ok-number_at-4.ensures.1, tt)))))),
)
