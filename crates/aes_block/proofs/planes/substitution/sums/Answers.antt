use Rattle.std.proofs.Common.{lit<, refl}
use Rattle.aes_block.specs.TruthTables.{FACTORS}
use Rattle.aes_block.specs.Wires.{IsWire}
use Rattle.aes_block.proofs.Gates.{and_gate, part_wire, xor_gate}
use Rattle.aes_block.proofs.planes.substitution.sums.Goals as goal

pub returns : goal.returns
returns g c p X in_y =
    let part = g.P.Plane.part p in
    let x7 = part_wire part X FACTORS c.args.y in_y 0 (lit< tt) c.index-y-0.result in
    let y1 = part_wire part X FACTORS c.args.y in_y 1 (lit< tt) c.index-y-1.result in
    let y2 = part_wire part X FACTORS c.args.y in_y 2 (lit< tt) c.index-y-2.result in
    let y3 = part_wire part X FACTORS c.args.y in_y 3 (lit< tt) c.index-y-3.result in
    let y4 = part_wire part X FACTORS c.args.y in_y 4 (lit< tt) c.index-y-4.result in
    let y5 = part_wire part X FACTORS c.args.y in_y 5 (lit< tt) c.index-y-5.result in
    let y6 = part_wire part X FACTORS c.args.y in_y 6 (lit< tt) c.index-y-6.result in
    let y7 = part_wire part X FACTORS c.args.y in_y 7 (lit< tt) c.index-y-7.result in
    let y8 = part_wire part X FACTORS c.args.y in_y 8 (lit< tt) c.index-y-8.result in
    let y9 = part_wire part X FACTORS c.args.y in_y 9 (lit< tt) c.index-y-9.result in
    let y10 = part_wire part X FACTORS c.args.y in_y 10 (lit< tt) c.index-y-10.result in
    let y11 = part_wire part X FACTORS c.args.y in_y 11 (lit< tt) c.index-y-11.result in
    let y12 = part_wire part X FACTORS c.args.y in_y 12 (lit< tt) c.index-y-12.result in
    let y13 = part_wire part X FACTORS c.args.y in_y 13 (lit< tt) c.index-y-13.result in
    let y14 = part_wire part X FACTORS c.args.y in_y 14 (lit< tt) c.index-y-14.result in
    let y15 = part_wire part X FACTORS c.args.y in_y 15 (lit< tt) c.index-y-15.result in
    let y16 = part_wire part X FACTORS c.args.y in_y 16 (lit< tt) c.index-y-16.result in
    let y17 = part_wire part X FACTORS c.args.y in_y 17 (lit< tt) c.index-y-17.result in
    let y18 = part_wire part X FACTORS c.args.y in_y 18 (lit< tt) c.index-y-18.result in
    let y19 = part_wire part X FACTORS c.args.y in_y 19 (lit< tt) c.index-y-19.result in
    let y20 = part_wire part X FACTORS c.args.y in_y 20 (lit< tt) c.index-y-20.result in
    let y21 = part_wire part X FACTORS c.args.y in_y 21 (lit< tt) c.index-y-21.result in
    let t2 : IsWire X 0x300cc003300cc003300cc003300cc003c003300cc003300cc003300cc003300c _ = and_gate X _ _ _ _ _ y12 y15 (c.and-t2.ensures p) in
    let t3 : IsWire X 0x960600990060690900606900960600906909006600909606009096006909006 _ = and_gate X _ _ _ _ _ y3 y6 (c.and-t3.ensures p) in
    let t4 : IsWire X 0x396ca00aa00ac693a00ac693396ca00ac693a00aa00a396ca00a396cc693a00a _ = xor_gate X _ _ _ _ _ t3 t2 (c.xor-t4.ensures p) in
    let t5 : IsWire X 0xaaaaaaaa0000aaaa00000000aaaa0000aaaaaaaa0000aaaa00000000aaaa _ = and_gate X _ _ _ _ _ y4 x7 (c.and-t5.ensures p) in
    let t6 : IsWire X 0x300c6aa99aa6c0039aa6c003300c6aa9c0039aa66aa9300c6aa9300cc0039aa6 _ = xor_gate X _ _ _ _ _ t5 t2 (c.xor-t6.ensures p) in
    let t7 : IsWire X 0x300330030330033030033003033003300cc00cc0c00cc00c0cc00cc0c00cc00c _ = and_gate X _ _ _ _ _ y13 y16 (c.and-t7.ensures p) in
    let t8 : IsWire X 0x2222222211111111111111112222222222222222111111111111111122222222 _ = and_gate X _ _ _ _ _ y5 y1 (c.and-t8.ensures p) in
    let t9 : IsWire X 0x122112211221122121122112211221122ee22ee2d11dd11d1dd11dd1e22ee22e _ = xor_gate X _ _ _ _ _ t8 t7 (c.xor-t9.ensures p) in
    let t10 : IsWire X 0x1441144182288228288228824114411482288228144114414114411428822882 _ = and_gate X _ _ _ _ _ y2 y7 (c.and-t10.ensures p) in
    let t11 : IsWire X 0x244224428118811818811881422442248ee88ee8d44dd44d4dd44dd4e88ee88e _ = xor_gate X _ _ _ _ _ t10 t7 (c.xor-t11.ensures p) in
    let t12 : IsWire X 0x3cc300003cc30000c33c0000c33c3cc300003cc30000c33c0000c33c0000 _ = and_gate X _ _ _ _ _ y9 y11 (c.and-t12.ensures p) in
    let t13 : IsWire X 0xf0ff0f0000000000f0ff0f000000000000000000f0ff0f0000000000f0ff0f0 _ = and_gate X _ _ _ _ _ y14 y17 (c.and-t13.ensures p) in
    let t14 : IsWire X 0xf0fcc3300003cc30f0f33cc0000c33c3cc3000033ccf0f0c33c0000cc33f0f0 _ = xor_gate X _ _ _ _ _ t13 t12 (c.xor-t14.ensures p) in
    let t15 : IsWire X 0x30c0c030c03030c0c03030c030c0c03c03030c030c0c03030c0c030c03030c0 _ = and_gate X _ _ _ _ _ y8 y10 (c.and-t15.ensures p) in
    let t16 : IsWire X 0x30c30c00c033fcf0c03c030030ccf3ffcf330c00c03c030f3fcc030030c30c0 _ = xor_gate X _ _ _ _ _ t15 t12 (c.xor-t16.ensures p) in
    let t17 : IsWire X 0x36636c39a00afa50af05f55f396c6336fa50a00a93c6c99c6336396c0aa050fa _ = xor_gate X _ _ _ _ _ t4 t14 (c.xor-t17.ensures p) in
    let t18 : IsWire X 0x33005a6996a5ffcc96a500333300a5963cf0aa6666aaf03c9955f03cc30faa66 _ = xor_gate X _ _ _ _ _ t6 t16 (c.xor-t18.ensures p) in
    let t19 : IsWire X 0x1d2ede1212212ee22e1d12de2112e22e12212ee2e2d121eddeed1dd12e1d12de _ = xor_gate X _ _ _ _ _ t9 t14 (c.xor-t19.ensures p) in
    let t20 : IsWire X 0x274e14828d1bbed71482d8b141288d1b721bbe28d84e147dbe288de4eb82d84e _ = xor_gate X _ _ _ _ _ t11 t16 (c.xor-t20.ensures p) in
    let t21 : IsWire X 0xaa0af059cc9396c6c39c99cfa505ff5396c9cc950faf55f5ff5fa50366393c6 _ = xor_gate X _ _ _ _ _ t17 y20 (c.xor-t21.ensures p) in
    let t22 : IsWire X 0xfc399555599c30f55993cf00fc366aa0033695aa596ccff5a69ccffffcc695a _ = xor_gate X _ _ _ _ _ t18 y19 (c.xor-t22.ensures p) in
    let t23 : IsWire X 0x12ded1e2e22edeed21ed1d2ed11d1221e22edeeded212e1d2ee2edde21ed1d2e _ = xor_gate X _ _ _ _ _ t19 y21 (c.xor-t23.ensures p) in
    let t24 : IsWire X 0xe472d7beb1d88214d7be1b8d7debb1d84ed882eb1b72d74182ebb12728be1b72 _ = xor_gate X _ _ _ _ _ t20 y18 (c.xor-t24.ensures p) in
    (t21, (t22, (t23, (t24, refl))))
