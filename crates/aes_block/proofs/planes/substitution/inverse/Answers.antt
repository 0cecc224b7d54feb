use Rattle.std.proofs.Common.{lit<, refl}
use Rattle.aes_block.specs.TruthTables.{SUMS}
use Rattle.aes_block.specs.Wires.{IsWire}
use Rattle.aes_block.proofs.Gates.{and_gate, part_wire, xor_gate}
use Rattle.aes_block.proofs.planes.substitution.inverse.Goals as goal

pub returns : goal.returns
returns g c p X in_t =
    let part = g.P.Plane.part p in
    let t21 = part_wire part X SUMS c.args.t in_t 0 (lit< tt) c.index-t-0.result in
    let t22 = part_wire part X SUMS c.args.t in_t 1 (lit< tt) c.index-t-1.result in
    let t23 = part_wire part X SUMS c.args.t in_t 2 (lit< tt) c.index-t-2.result in
    let t24 = part_wire part X SUMS c.args.t in_t 3 (lit< tt) c.index-t-3.result in
    let t25 : IsWire X 0x5633650c950fa6339a0f56cf593395f395ff593f56c39a0059c36afc9affa9c _ = xor_gate X _ _ _ _ _ t21 t22 (c.xor-t25.ensures p) in
    let t26 : IsWire X 0x28081008008186c2029090cd0101221202c9cc94020241d0ee0e85020611106 _ = and_gate X _ _ _ _ _ t21 t23 (c.and-t26.ensures p) in
    let t27 : IsWire X 0xe6f256be31d09a78f7971281adfba3f96ef41e225b52f35c8c0b597708df0a74 _ = xor_gate X _ _ _ _ _ t24 t26 (c.xor-t27.ensures p) in
    let t28 : IsWire X 0x462161001509a6031801000a5932159285414025140310004081027088f0a14 _ = and_gate X _ _ _ _ _ t25 t27 (c.and-t28.ensures p) in
    let t29 : IsWire X 0xba18f4554c9596f64192cf0aa5047f328677d58f4d6fdff5e61dcd8f743634e _ = xor_gate X _ _ _ _ _ t28 t22 (c.xor-t29.ensures p) in
    let t30 : IsWire X 0xf6ac065c53f65cf9f65306a3acf6a3f9acf65c06f653f95cac095cf90953065c _ = xor_gate X _ _ _ _ _ t23 t24 (c.xor-t30.ensures p) in
    let t31 : IsWire X 0xd431855d591db6375b035fcdfd3748b201ff593e5b6e8e2548924afdfad785c _ = xor_gate X _ _ _ _ _ t22 t26 (c.xor-t31.ensures p) in
    let t32 : IsWire X 0x400005451905861741004a08cd2208920165402e412e840040904a90901005c _ = and_gate X _ _ _ _ _ t31 t30 (c.and-t32.ensures p) in
    let t33 : IsWire X 0xe072d7eae048da75a3ae1f2df13991516eced6e9ff603f0186e2b58e21bf1b2e _ = xor_gate X _ _ _ _ _ t32 t24 (c.xor-t33.ensures p) in
    let t34 : IsWire X 0xf2ac06080266049882430203202483708ce008041241111ca800585000520600 _ = xor_gate X _ _ _ _ _ t23 t33 (c.xor-t34.ensures p) in
    let t35 : IsWire X 0x6808154d198400d54390dac5cc232a8003ac8cba432cc5d0ae9ecf92960115a _ = xor_gate X _ _ _ _ _ t27 t33 (c.xor-t35.ensures p) in
    let t36 : IsWire X 0x4008114919800045438098c5cc23088001880cb0032c44102e9a02128201152 _ = and_gate X _ _ _ _ _ t24 t35 (c.and-t36.ensures p) in
    let t37 : IsWire X 0xf6ac871c93fe049cd67b0b8f7ce6b3f88cf888cf1273d55daae9f87128721752 _ = xor_gate X _ _ _ _ _ t36 t34 (c.xor-t37.ensures p) in
    let t38 : IsWire X 0xe2f2d7aaa0489a7ca3af1b0df13993716eec9ee95b60371d8ee2f95620ff1b26 _ = xor_gate X _ _ _ _ _ t27 t36 (c.xor-t38.ensures p) in
    let t39 : IsWire X 0x2a087000048186c20090800a010037128641c485040351d0e60d85020430306 _ = and_gate X _ _ _ _ _ t29 t38 (c.and-t39.ensures p) in
    let t40 : IsWire X 0x7c3b150c918e20f19a9fd6c55833a2e113be9dba52c0cbd0bfceeffe9ecf99a _ = xor_gate X _ _ _ _ _ t25 t39 (c.xor-t40.ensures p) in
    let t41 : IsWire X 0xf16f364c5ae6e693cfd2f6e3296589d69dc36114b75fd9e0a115168ec19eeec8 _ = xor_gate X _ _ _ _ _ t40 t37 (c.xor-t41.ensures p) in
    let t42 : IsWire X 0xebd358afb481831ac7b733dd5b69d6a246a9abb10bb6c2fed8836956d6fc7860 _ = xor_gate X _ _ _ _ _ t29 t33 (c.xor-t42.ensures p) in
    let t43 : IsWire X 0xc623e159dd1bb607db0d19cffd37ddd395c948351faf142559d32271eaf9ad4 _ = xor_gate X _ _ _ _ _ t29 t40 (c.xor-t43.ensures p) in
    let t44 : IsWire X 0x16de50f673b6dee975d514a28ddf22a9e2365e26ed13ea5c2c0b4dff09cd0c7c _ = xor_gate X _ _ _ _ _ t33 t37 (c.xor-t44.ensures p) in
    let t45 : IsWire X 0x1abc6ee3ee6765890865c53e720c5f74db6acaa5bce91b1e79967fd8176296a8 _ = xor_gate X _ _ _ _ _ t42 t41 (c.xor-t45.ensures p) in
    (t29, (t33, (t37, (t40, (t41, (t42, (t43, (t44, (t45, refl)))))))))
