-- Which bytes JSON shows as they are (RFC 8259).
use Rattle.std.specs.Prelude.{ℕ, Bool, ◌==◌, ◌&&◌, nat_le, not}

-- neither a control byte nor a quote nor a backslash
abbrev pub is_plain : ℕ → Bool
is_plain byte = nat_le 32 byte && not (byte == 34) && not (byte == 92)
