use Rattle.std.proofs.Common.{lit<, refl}
use Rattle.aes_block.specs.TruthTables.{TERMS}
use Rattle.aes_block.specs.Wires.{IsWire}
use Rattle.aes_block.proofs.Gates.{ones_gate, part_wire, xor_gate}
use Rattle.aes_block.proofs.planes.substitution.bits.Goals as goal

pub returns : goal.returns
returns g c p X low in_z =
    let part = g.P.Plane.part p in
    let z0 = part_wire part X TERMS c.args.z in_z 0 (lit< tt) c.index-z-0.result in
    let z1 = part_wire part X TERMS c.args.z in_z 1 (lit< tt) c.index-z-1.result in
    let z2 = part_wire part X TERMS c.args.z in_z 2 (lit< tt) c.index-z-2.result in
    let z3 = part_wire part X TERMS c.args.z in_z 3 (lit< tt) c.index-z-3.result in
    let z4 = part_wire part X TERMS c.args.z in_z 4 (lit< tt) c.index-z-4.result in
    let z5 = part_wire part X TERMS c.args.z in_z 5 (lit< tt) c.index-z-5.result in
    let z6 = part_wire part X TERMS c.args.z in_z 6 (lit< tt) c.index-z-6.result in
    let z7 = part_wire part X TERMS c.args.z in_z 7 (lit< tt) c.index-z-7.result in
    let z8 = part_wire part X TERMS c.args.z in_z 8 (lit< tt) c.index-z-8.result in
    let z9 = part_wire part X TERMS c.args.z in_z 9 (lit< tt) c.index-z-9.result in
    let z10 = part_wire part X TERMS c.args.z in_z 10 (lit< tt) c.index-z-10.result in
    let z11 = part_wire part X TERMS c.args.z in_z 11 (lit< tt) c.index-z-11.result in
    let z12 = part_wire part X TERMS c.args.z in_z 12 (lit< tt) c.index-z-12.result in
    let z13 = part_wire part X TERMS c.args.z in_z 13 (lit< tt) c.index-z-13.result in
    let z14 = part_wire part X TERMS c.args.z in_z 14 (lit< tt) c.index-z-14.result in
    let z15 = part_wire part X TERMS c.args.z in_z 15 (lit< tt) c.index-z-15.result in
    let z16 = part_wire part X TERMS c.args.z in_z 16 (lit< tt) c.index-z-16.result in
    let z17 = part_wire part X TERMS c.args.z in_z 17 (lit< tt) c.index-z-17.result in
    let ones = ones_gate X _ low (c.splat-ones.ensures p) in
    let t46 : IsWire X 0xa0c384f0e07e39a0805f3ed020c86d24da3c0a007bf1010d18570d0d1fe90a0 _ = xor_gate X _ _ _ _ _ z15 z16 (c.xor-t46.ensures p) in
    let t47 : IsWire X 0x207883a2329e54c134b817833971a168c0d4022eaa415448aacb7d6501071c38 _ = xor_gate X _ _ _ _ _ z10 z11 (c.xor-t47.ensures p) in
    let t48 : IsWire X 0x463a6019d5190607999b1986c1263b40043740a15489cf04198c00901660104 _ = xor_gate X _ _ _ _ _ z5 z13 (c.xor-t48.ensures p) in
    let t49 : IsWire X 0x743441caa2a2c655a2060204647c23e946929ca2c1626955286a645d01d31a2e _ = xor_gate X _ _ _ _ _ z9 z10 (c.xor-t49.ensures p) in
    let t50 : IsWire X 0xa000b0bbb119b900939a1b38933bb11122c60628eae8ea40c62ea08e2c2682ee _ = xor_gate X _ _ _ _ _ z2 z12 (c.xor-t50.ensures p) in
    let t51 : IsWire X 0xa20304ebb4419a49c2ba22b88838c1922aeb96e03e60be69caa2e81a41a86b2c _ = xor_gate X _ _ _ _ _ z2 z5 (c.xor-t51.ensures p) in
    let t52 : IsWire X 0x3b4064e0a8422789c417f2f0514487165c632b013f45d83051940b0ac710b268 _ = xor_gate X _ _ _ _ _ z7 z8 (c.xor-t52.ensures p) in
    let t53 : IsWire X 0x1e8e7c33b2944f010d4414a2c2dc413df87206878d2be34c188231cf0a2d8258 _ = xor_gate X _ _ _ _ _ z0 z3 (c.xor-t53.ensures p) in
    let t54 : IsWire X 0x22cf7863d4e1050bcb31c32c3328cd24d4e12284048b10d2b0904e1cc53ed080 _ = xor_gate X _ _ _ _ _ z6 z7 (c.xor-t54.ensures p) in
    let t55 : IsWire X 0xb0366ec040166830707c6330b0959769bcaa0b0bc59c0f0a9166050c7927060 _ = xor_gate X _ _ _ _ _ z16 z17 (c.xor-t55.ensures p) in
    let t56 : IsWire X 0x44194108c40a34048a9a0885f0152a5080ff08a55805cb00514c00d0dea89c0 _ = xor_gate X _ _ _ _ _ z12 t48 (c.xor-t56.ensures p) in
    let t57 : IsWire X 0xbe8ecc88038df6019ede0f9a51e7f02cdab400af67c3090cdeac9141260b00b6 _ = xor_gate X _ _ _ _ _ t50 t53 (c.xor-t57.ensures p) in
    let t58 : IsWire X 0x88e984f4f17a39f1904a6a9028eacf84d89682a02bb1405d0d134857956382a _ = xor_gate X _ _ _ _ _ z4 t46 (c.xor-t58.ensures p) in
    let t59 : IsWire X 0x2e8d446255f1862bf7b1d3acf0388c38eca1360745b3d1d2a4117e1fc7125294 _ = xor_gate X _ _ _ _ _ z3 t54 (c.xor-t59.ensures p) in
    let t60 : IsWire X 0xb482f4c70d8a159b96dbfc7753eb76fe9717c00f607c191c0f29e191f7f59016 _ = xor_gate X _ _ _ _ _ t46 t57 (c.xor-t60.ensures p) in
    let t61 : IsWire X 0xbf8fc9cd0305fe2bbed6273a51b7b57df29628a733975c598aedc511840922bc _ = xor_gate X _ _ _ _ _ z14 t57 (c.xor-t61.ensures p) in
    let t62 : IsWire X 0x33cefcafe7558416dd13545953ca2bee11ea432b3dfecc3581453f8fbe468a42 _ = xor_gate X _ _ _ _ _ t52 t58 (c.xor-t62.ensures p) in
    let t63 : IsWire X 0x7cbad985edb565cabb02a4ad66f28f110b1bf488c3d97d50f8bb50d878852204 _ = xor_gate X _ _ _ _ _ t49 t58 (c.xor-t63.ensures p) in
    let t64 : IsWire X 0x2c0fe46214e1c62ee6b086e8f0baa612ec8b9e8d40b7d5c7a5453a4a6fbafa1e _ = xor_gate X _ _ _ _ _ z4 t59 (c.xor-t64.ensures p) in
    let t65 : IsWire X 0x8c413562e4507a3d63c57363027d9e93e37c6b8c0e69906c0ba8fa9e3a4fa8fe _ = xor_gate X _ _ _ _ _ t61 t62 (c.xor-t65.ensures p) in
    let t66 : IsWire X 0xec9edf9d7cd361522b60a6247e94ad890f837ccec1c8ec14da32c8b858953346 _ = xor_gate X _ _ _ _ _ z1 t63 (c.xor-t66.ensures p) in
    let s0 : IsWire X 0x52379de7b844e3e14cb3770196ca0329e7bac28f866aac825caa2ec7bf977090 _ = xor_gate X _ _ _ _ _ t59 t63 (c.xor-s0.ensures p) in
    let n62 : IsWire X 0xcc31035018aa7be922ecaba6ac35d411ee15bcd4c20133ca7ebac07041b975bd _ = xor_gate X _ _ _ _ _ t62 ones (c.xor.ensures p) in
    let s6 : IsWire X 0xc870974094ead8a96a450b2ef33486b4e61a4c5e97816f7a7bae007d4c53fc7d _ = xor_gate X _ _ _ _ _ t56 n62 (c.xor-s6.ensures p) in
    let n60 : IsWire X 0x4b7d0b38f275ea6469240388ac14890168e83ff09f83e6e3f0d61e6e080a6fe9 _ = xor_gate X _ _ _ _ _ t60 ones (c.xor-2.ensures p) in
    let s7 : IsWire X 0x4f1ead396f247a0410bdb210c006eab568ab4bfa8acb7a13b14ede67096c6eed _ = xor_gate X _ _ _ _ _ t48 n60 (c.xor-s7.ensures p) in
    let t67 : IsWire X 0xa04ed100f0b1bc138575f58bf2c738810ff7f5014ede45abaeedc0d455f552e0 _ = xor_gate X _ _ _ _ _ t64 t65 (c.xor-t67.ensures p) in
    let s3 : IsWire X 0xf210a3aece472e532624b286bc48ecb4f7f17a494ce30f58c2b0f97752b8b11e _ = xor_gate X _ _ _ _ _ t53 t66 (c.xor-s3.ensures p) in
    let s4 : IsWire X 0x4e9ddb76c892fb1be9da849cf6ac6c1b2568ea2effa8527d109020a2193d586a _ = xor_gate X _ _ _ _ _ t51 t66 (c.xor-s4.ensures p) in
    let s5 : IsWire X 0xac39b6c0d6ce2efc577d64e03b0c3ffb23a869a2a428c424a16387fb3b48b4c6 _ = xor_gate X _ _ _ _ _ t47 t65 (c.xor-s5.ensures p) in
    let n3 : IsWire X 0xdef5c5131b8d1acd9db4d7943b7134b080e85b6b31cf0a73d4f0688ad474ee1 _ = xor_gate X _ _ _ _ _ s3 ones (c.xor-3.ensures p) in
    let s1 : IsWire X 0x21e0b833255917823f6bcb91b30db559e4851b3bf3ab2560980a3cc2c2fdb4ff _ = xor_gate X _ _ _ _ _ t64 n3 (c.xor-s1.ensures p) in
    let n67 : IsWire X 0x5fb12eff0f4e43ec7a8a0a740d38c77ef0080afeb121ba5451123f2baa0aad1f _ = xor_gate X _ _ _ _ _ t67 ones (c.xor-4.ensures p) in
    let s2 : IsWire X 0x54b248130b4f256f7d8dcc4706319e086bc2aa4e0d787aa4f8045f7b6d98dd7f _ = xor_gate X _ _ _ _ _ t55 n67 (c.xor-s2.ensures p) in
    (s7, (s6, (s5, (s4, (s3, (s2, (s1, (s0, refl))))))))
