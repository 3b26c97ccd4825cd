-- A buffer that is filled piece by piece: what stands at its front after one more piece. Assumes nothing.
use Rattle.std.proofs.Common.{◌≡◌, ℕ, ◌+◌, ◌-◌, ◌≤◌, List, ◌++◌, length, take, sym, ap, ◌∙◌}
use lib.Seq.{length-take-le}
use Rattle.std.proofs.Math.Seq.{take-append-add}
use Rattle.std.proofs.lemmas.List.{take-append-le}
use borrow.Rule.Slice.PartMut.{put_mid, post_of}

pub front_of_pieces : {X : Type 0} (done n : ℕ) (buffer piece : List X) → done ≤ length buffer → n ≤ length piece →
    take (done + n) (put_mid done (length buffer - done) buffer piece) ≡ take done buffer ++ take n piece
front_of_pieces {X} done n buffer piece h k =
    let front = take done buffer in
    let behind = piece ++ post_of done (length buffer - done) buffer in
    ap (λ (m : ℕ). take (m + n) (front ++ behind)) (sym (length-take-le done buffer h))
    ∙ take-append-add front behind n
    ∙ ap (λ (l : List X). front ++ l) (take-append-le n piece _ k)
