-- One store.
use mathlib.Core.Path.{refl}
use Rattle.text.proofs.Putting.{put_one, put_kept}
use Rattle.text.proofs.Page.byte.Goals as goal

pub returns : goal.returns
returns c =
    let page = c.args.self.now in
    let put = put_one page.out.now page.at c.args.b c.requires in
    record { same = refl; kept = put_kept c.requires put; put = put }
