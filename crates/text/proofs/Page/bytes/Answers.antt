use mathlib.Core.Path.{refl}
use Rattle.text.proofs.Putting.{put_part, put_kept}
use Rattle.text.proofs.Page.bytes.Goals as goal

pub returns : goal.returns
returns c =
    let page = c.args.self.now in
    let put = put_part page.out.now page.at c.args.s.now _ c.copy_from_slice.ensures.after in
    record { same = refl; kept = put_kept c.requires put; put = put }
