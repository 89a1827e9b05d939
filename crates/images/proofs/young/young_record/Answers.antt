-- `young::young_record` meets its contract: what the four functions put is what `young-built` speaks of.
use Rattle.images.proofs.YoungLaws.{young-built}
use Rattle.images.proofs.young.young_record.Goals as goal

pub returns : goal.returns
returns c = rw (c.put_records.ensures, c.put_grant.ensures, c.put_files.ensures, c.put_descriptors.ensures) (young-built _)
