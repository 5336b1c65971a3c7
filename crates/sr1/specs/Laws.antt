-- What the trait `Kind` asks of every kind of session, of SR1TrustRegion: settings in range name a kernel and a small allowance. Assumes nothing.
use Rattle.vectors.proofs.Sizes.{each_holds}
use Rattle.kernels.proofs.Choices.{in_range_known}
use Rattle.offer.specs.Session.{Lawful}
use Rattle.sr1.specs.Settings.{ranges, in_range}
use Rattle.sr1.specs.Session.{kind}

pub lawful : Lawful kind
unfolding in_range
lawful = record {
  known = λ t e. in_range_known t.choice (each_holds (ranges t) e).0;
  allowable = λ t e. (each_holds (ranges t) e).1.1.1.1.1.1.1.1.0;
}
