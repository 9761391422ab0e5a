use Rattle.msi_cache.proofs.Forgets.{plain_on_home, plain_want, plain_put, plain_rider}
use Rattle.msi_cache.proofs.cache.riders_change_no_plain_part.Goals as goal

pub returns-clause-on_home : goal.returns-clause-on_home
returns-clause-on_home g c = λ lines m. plain_on_home g.R.Rider.riding lines m

pub returns-clause-want : goal.returns-clause-want
returns-clause-want g c = λ lines block kind. plain_want g.R.Rider.riding lines block kind

pub returns-clause-put_word : goal.returns-clause-put_word
returns-clause-put_word g c = λ lines block slot value. plain_put g.R.Rider.riding lines block slot value

pub returns-clause-rider : goal.returns-clause-rider
returns-clause-rider g c = λ lines block rider. plain_rider g.R.Rider.riding lines block rider
