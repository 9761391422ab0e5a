use Rattle.rtr_cli.proofs.MigratedReading.{migrated_reads_the_same, newest_stays}
use Rattle.rtr_cli.proofs.laws.migrate_laws.Goals as goal

pub returns : goal.returns
returns c = record { same = migrated_reads_the_same; newest = newest_stays }
