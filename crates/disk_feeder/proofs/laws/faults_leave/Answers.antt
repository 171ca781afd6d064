use Rattle.disk_feeder.proofs.Leavings.{leaves}
use Rattle.disk_feeder.proofs.laws.faults_leave.Goals as goal

pub returns : goal.returns
returns g c = λ f before told headers blocks feeds ended read.
    leaves f.stream before told headers blocks feeds ended read
