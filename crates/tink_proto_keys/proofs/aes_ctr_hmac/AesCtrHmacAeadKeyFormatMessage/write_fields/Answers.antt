use Rattle.tink_proto_keys.proofs.WrittenFields.{behind, both_fit}
use Rattle.tink_proto_keys.proofs.aes_ctr_hmac.AesCtrHmacAeadKeyFormatMessage.write_fields.Goals as goal

pub returns : goal.returns
returns c = record {
  bytes = behind c.put_message-2.result c.args.out.now.items c.put_message.new.out.items c.put_message-2.new.out.items _ _ c.in_ok-put_message.ensures.bytes c.put_message-2.ensures.bytes;
  fits = both_fit c.put_message-2.result _ _ c.in_ok-put_message.ensures.fits c.put_message-2.ensures.fits;
}
