use Rattle.std.proofs.Common.{◌≡◌, ◌++◌, ℤ, map, true, subst, w32, rules}
use Rattle.std.proofs.lemmas.Int.{to_z-of_z}
use Rattle.std.specs.Int.{cast_unsigned, w64}
use Rattle.wire_format.specs.Columns.{at}
use Rattle.wire_format.specs.Values.{fits_enum, unless_zero}
use Rattle.wire_format.specs.Writing.{spelling}
use Rattle.tink_proto_keys.proofs.WrittenFields.{behind, both_fit}
use Rattle.tink_proto_keys.proofs.streaming.AesCtrHmacStreamingParamsMessage.write_fields.Goals as goal

pub returns : goal.returns
returns c =
    let hash = c.args.self.now.hkdf_hash_type in
    let same = to_z-of_z w32 hash (search rules) in
    let r = c.put_message.result in
    let out = c.put_message.new.out.items in
    let before = c.put_number-2.new.out.items in
    let bytes = subst (λ (n : ℤ). c.put_enum.new.out.items ≡ before ++ spelling (map (at 3) (unless_zero (cast_unsigned w64 n)))) same c.in_ok-put_enum.ensures.bytes in
    let fits = subst (λ (n : ℤ). fits_enum n ≡ true) same c.in_ok-put_enum.ensures.fits in
    record {
      bytes = behind r c.args.out.now.items c.put_number.new.out.items out _ _ c.in_ok-put_number.ensures.bytes
          (behind r c.put_number.new.out.items before out _ _ c.in_ok-put_number-2.ensures.bytes (behind r before c.put_enum.new.out.items out _ _ bytes c.put_message.ensures.bytes));
      fits = both_fit r _ _ c.in_ok-put_number.ensures.fits (both_fit r _ _ c.in_ok-put_number-2.ensures.fits (both_fit r _ _ fits c.put_message.ensures.fits));
    }
