-- What is held of a line.
use Rattle.std.proofs.Common.{◌≡◌, ◌≢◌, ◌-◌, ◌≤◌, All, length, take, drop, sym, ap, subst, ◌∙◌, arith, ◌==◌, take-take}
use Rattle.std.specs.Io.{StopsAt}
use Rattle.std.specs.Io.Buffered.{reader_buffer, reader_capacity}
use Rattle.std.proofs.lemmas.List.Elements.{All-take}
use Rattle.std.proofs.Transfers.{StopsAt-take}
use Rattle.httparse.specs.Ascii.{line_feed}
use Rattle.farm_http.proofs.Held.{held_copied, held_taken}
use Rattle.farm_http.proofs.input.BufReaderInput.read_in_line.Goals as goal

pub returns-clause-bytes : goal.returns-clause-bytes
returns-clause-bytes g c =
    let n = c.min-count.result in
    let old = c.args.self.now in
    let held = reader_buffer old in
    let fits : n ≤ length held = omega (arith, ap length c.buffer.ensures) in
    let copied = held_copied n c.copy_from_slice.new.self (drop n c.args.buf.now) held (c.copy_from_slice.ensures.after ∙ ap (take n) c.buffer-2.ensures) fits in
    let taken = held_taken (reader_capacity old == 0) held (g.R.Read.remaining old.inner) n in
    (rw (c.consume.ensures.capacity, c.consume.ensures.buffer, c.consume.ensures.inner, copied) taken, λ none. absurd (c.if-count-eq0.false none))

pub returns-clause-line : goal.returns-clause-line
returns-clause-line g c =
    let n = c.min-count.result in
    let held = c.buffer.result.now in
    let fits : n ≤ length held = omega arith in
    let same : c.buffer-2.result.now ≡ held = c.buffer-2.ensures ∙ sym c.buffer.ensures in
    let copied = held_copied n c.copy_from_slice.new.self (drop n c.args.buf.now) held (c.copy_from_slice.ensures.after ∙ ap (take n) same) fits in
    let line : All (λ x. x ≢ line_feed) (take (n - 1) held) = subst (All (λ x. x ≢ line_feed)) (take-take (n - 1) (c.line_len.result - 1) held (omega arith)) (All-take (λ x. x ≢ line_feed) (n - 1) _ c.line_len.ensures.line) in
    subst (λ l. StopsAt l line_feed) (sym copied) (StopsAt-take held line_feed n fits line)
