use Rattle.std.proofs.Common.{rules, refl}
use Rattle.f11fs.proofs.Places.{adds}
use Rattle.f11fs.proofs.early.Early.read.Goals as goal

pub returns : goal.returns
returns g c =
    adds (g.R.Host.gives c.args.rt.now) c.args.path.now c.args.self.now _ c.in-Some.room c.room_behind.result _ c.in-Some.is c.in_ok-push_taken.ensures (search rules) refl c.bytes_of-bytes.ensures.given c.bytes_of-bytes.ensures.few c.room_behind.ensures refl
