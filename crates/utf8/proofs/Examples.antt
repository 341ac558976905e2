-- Examples of RFC 3629's rules, computed.
use mathlib.Core.List.{[], ◌∷◌}
use mathlib.Core.Path.{◌≡◌, refl}
use Rattle.utf8.specs.Utf8.{sequence_length, is_continuation, continued, lead_bits, value_of, least_value, is_surrogate, is_improper, scalar_of, sequence, front, malformed, points, decode_from, decode}

-- A, U+00E9, U+20AC, U+1F332, and the first three as one text
pub wellformed_examples : (decode (0x41 ∷ []) ≡ points (0x41 ∷ []))
    × (decode (0xC3 ∷ 0xA9 ∷ []) ≡ points (0xE9 ∷ []))
    × (decode (0xE2 ∷ 0x82 ∷ 0xAC ∷ []) ≡ points (0x20AC ∷ []))
    × (decode (0xF0 ∷ 0x9F ∷ 0x8C ∷ 0xB2 ∷ []) ≡ points (0x1F332 ∷ []))
    × (decode (0x41 ∷ 0xC3 ∷ 0xA9 ∷ 0xE2 ∷ 0x82 ∷ 0xAC ∷ []) ≡ points (0x41 ∷ 0xE9 ∷ 0x20AC ∷ []))
unfolding sequence_length is_continuation continued lead_bits value_of least_value is_surrogate is_improper scalar_of sequence front decode_from decode
wellformed_examples = (refl, refl, refl, refl, refl)

-- an overlong form of U+0000; the surrogate U+D800; 0x110000; U+20AC without its last byte; a lone continuation byte; five ones at the top
pub malformed_examples : (decode (0xC0 ∷ 0x80 ∷ []) ≡ malformed)
    × (decode (0xED ∷ 0xA0 ∷ 0x80 ∷ []) ≡ malformed)
    × (decode (0xF4 ∷ 0x90 ∷ 0x80 ∷ 0x80 ∷ []) ≡ malformed)
    × (decode (0xE2 ∷ 0x82 ∷ []) ≡ malformed)
    × (decode (0x80 ∷ []) ≡ malformed)
    × (decode (0xF8 ∷ 0x88 ∷ 0x80 ∷ 0x80 ∷ 0x80 ∷ []) ≡ malformed)
unfolding sequence_length is_continuation continued lead_bits value_of least_value is_surrogate is_improper scalar_of sequence front decode_from decode
malformed_examples = (refl, refl, refl, refl, refl, refl)
