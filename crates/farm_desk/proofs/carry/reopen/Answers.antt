use Rattle.farm_desk.proofs.carry.reopen.Goals as goal

pub returns-in-Ok-open_files-clause-carried : goal.returns-in-Ok-open_files-clause-carried
returns-in-Ok-open_files-clause-carried g c = record {
  files = c.in-Ok.files;
  copied = c.in-Ok.ensures.copied;
  opens = c.in-Ok-open_files.ensures.opened;
  found = c.in-Ok-open_files.ensures.found;
}
