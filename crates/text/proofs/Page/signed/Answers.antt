-- By z's sign: the minus sign and then the magnitude, or the magnitude alone.
use mathlib.Core.Path.{◌≡◌}
use mathlib.Core.Bool.{true, false}
use lib.IntN.{pos, nat_abs}
use lib.Signed.{lt_z}
use mir.Syntax.{w64}
use mir.Facts.{to_z-of_z}
use Rattle.text.proofs.Putting.{sign_room, past_sign_room, write_negative, nonnegative_room, write_nonnegative}
use Rattle.text.proofs.Page.signed.Goals as goal

pub byte-requires : goal.byte-requires
byte-requires c =
    let size : c.unsigned_abs-n.result ≡ nat_abs c.args.z =
    rw (to_z-of_z {w = w64} c.ranges.z) at c.unsigned_abs-n.ensures.value in
    let negative : lt_z c.args.z (pos 0) ≡ true =
    rw (to_z-of_z {w = w64} c.ranges.z) at c.if-z-lt0.true in
    sign_room c.args.self.now c.args.z _ size negative c.requires

pub decimal-requires : goal.decimal-requires
decimal-requires c =
    let size : c.unsigned_abs-n.result ≡ nat_abs c.args.z =
    rw (to_z-of_z {w = w64} c.ranges.z) at c.unsigned_abs-n.ensures.value in
    let negative : lt_z c.args.z (pos 0) ≡ true =
    rw (to_z-of_z {w = w64} c.ranges.z) at c.if-z-lt0.true in
    past_sign_room c.args.self.now c.args.z _ size negative c.requires c.byte.ensures

pub returns-then-z-lt0 : goal.returns-then-z-lt0
returns-then-z-lt0 c =
    let size : c.unsigned_abs-n.result ≡ nat_abs c.args.z =
    rw (to_z-of_z {w = w64} c.ranges.z) at c.unsigned_abs-n.ensures.value in
    let negative : lt_z c.args.z (pos 0) ≡ true =
    rw (to_z-of_z {w = w64} c.ranges.z) at c.if-z-lt0.true in
    write_negative c.args.self.now c.args.z _ size negative c.byte.ensures c.decimal.ensures

pub decimal-requires-2 : goal.decimal-requires-2
decimal-requires-2 c =
    let size : c.unsigned_abs-n.result ≡ nat_abs c.args.z =
    rw (to_z-of_z {w = w64} c.ranges.z) at c.unsigned_abs-n.ensures.value in
    let nonnegative : lt_z c.args.z (pos 0) ≡ false =
    rw (to_z-of_z {w = w64} c.ranges.z) at c.if-z-lt0.false in
    nonnegative_room c.args.self.now c.args.z _ size nonnegative c.requires

pub returns : goal.returns
returns c =
    let size : c.unsigned_abs-n.result ≡ nat_abs c.args.z =
    rw (to_z-of_z {w = w64} c.ranges.z) at c.unsigned_abs-n.ensures.value in
    let nonnegative : lt_z c.args.z (pos 0) ≡ false =
    rw (to_z-of_z {w = w64} c.ranges.z) at c.if-z-lt0.false in
    write_nonnegative c.args.self.now c.args.z _ size nonnegative c.decimal-2.ensures
