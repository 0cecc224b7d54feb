use Rattle.std.proofs.Common.{lit<, refl}
use Rattle.aes_block.specs.TruthTables.{FACTORS, INVERSE}
use Rattle.aes_block.specs.Wires.{IsWire}
use Rattle.aes_block.proofs.Gates.{and_gate, part_wire}
use Rattle.aes_block.proofs.planes.substitution.terms.Goals as goal

pub returns : goal.returns
returns g c p X in_y in_t =
    let part = g.P.Plane.part p in
    let x7 = part_wire part X FACTORS c.args.y in_y 0 (lit< tt) c.index-y-0.result in
    let y1 = part_wire part X FACTORS c.args.y in_y 1 (lit< tt) c.index-y-1.result in
    let y2 = part_wire part X FACTORS c.args.y in_y 2 (lit< tt) c.index-y-2.result in
    let y3 = part_wire part X FACTORS c.args.y in_y 3 (lit< tt) c.index-y-3.result in
    let y4 = part_wire part X FACTORS c.args.y in_y 4 (lit< tt) c.index-y-4.result in
    let y5 = part_wire part X FACTORS c.args.y in_y 5 (lit< tt) c.index-y-5.result in
    let y6 = part_wire part X FACTORS c.args.y in_y 6 (lit< tt) c.index-y-6.result in
    let y7 = part_wire part X FACTORS c.args.y in_y 7 (lit< tt) c.index-y-7.result in
    let y8 = part_wire part X FACTORS c.args.y in_y 8 (lit< tt) c.index-y-8.result in
    let y9 = part_wire part X FACTORS c.args.y in_y 9 (lit< tt) c.index-y-9.result in
    let y10 = part_wire part X FACTORS c.args.y in_y 10 (lit< tt) c.index-y-10.result in
    let y11 = part_wire part X FACTORS c.args.y in_y 11 (lit< tt) c.index-y-11.result in
    let y12 = part_wire part X FACTORS c.args.y in_y 12 (lit< tt) c.index-y-12.result in
    let y13 = part_wire part X FACTORS c.args.y in_y 13 (lit< tt) c.index-y-13.result in
    let y14 = part_wire part X FACTORS c.args.y in_y 14 (lit< tt) c.index-y-14.result in
    let y15 = part_wire part X FACTORS c.args.y in_y 15 (lit< tt) c.index-y-15.result in
    let y16 = part_wire part X FACTORS c.args.y in_y 16 (lit< tt) c.index-y-16.result in
    let y17 = part_wire part X FACTORS c.args.y in_y 17 (lit< tt) c.index-y-17.result in
    let t29 = part_wire part X INVERSE c.args.t in_t 0 (lit< tt) c.index-t-0.result in
    let t33 = part_wire part X INVERSE c.args.t in_t 1 (lit< tt) c.index-t-1.result in
    let t37 = part_wire part X INVERSE c.args.t in_t 2 (lit< tt) c.index-t-2.result in
    let t40 = part_wire part X INVERSE c.args.t in_t 3 (lit< tt) c.index-t-3.result in
    let t41 = part_wire part X INVERSE c.args.t in_t 4 (lit< tt) c.index-t-4.result in
    let t42 = part_wire part X INVERSE c.args.t in_t 5 (lit< tt) c.index-t-5.result in
    let t43 = part_wire part X INVERSE c.args.t in_t 6 (lit< tt) c.index-t-6.result in
    let t44 = part_wire part X INVERSE c.args.t in_t 7 (lit< tt) c.index-t-7.result in
    let t45 = part_wire part X INVERSE c.args.t in_t 8 (lit< tt) c.index-t-8.result in
    let z0 : IsWire X 0x12cc40323384cc2131c4042201cc0021c0321204cc13224c0c0301cc0801004c _ = and_gate X _ _ _ _ _ t44 y15 (c.and-z0.ensures p) in
    let z1 : IsWire X 0x9024061891660498906202891866229804988846021191442289986020101142 _ = and_gate X _ _ _ _ _ t37 y6 (c.and-z1.ensures p) in
    let z2 : IsWire X 0xa02282aaa0088a20a2aa0a28a02880002a8a82a8aa202a0082a2a08a20aa0a2a _ = and_gate X _ _ _ _ _ t33 x7 (c.and-z2.ensures p) in
    let z3 : IsWire X 0xc423c01811083203c801080c310411c384014834138c10014813003022c8214 _ = and_gate X _ _ _ _ _ t43 y16 (c.and-z3.ensures p) in
    let z4 : IsWire X 0x282a000411040051101554400822a2a002aa88a0504041501544455a8a8a88a _ = and_gate X _ _ _ _ _ t40 y1 (c.and-z4.ensures p) in
    let z5 : IsWire X 0x221864114491069601028902810419200611448944094694800489061026106 _ = and_gate X _ _ _ _ _ t29 y7 (c.and-z5.ensures p) in
    let z6 : IsWire X 0x28c3188334810002c334031c4328c22004812881088200c2c0004114c23c4020 _ = and_gate X _ _ _ _ _ t42 y11 (c.and-z6.ensures p) in
    let z7 : IsWire X 0xa0c60e0e06005090805c03070000f04d0600a050c09101070900f08070290a0 _ = and_gate X _ _ _ _ _ t45 y17 (c.and-z7.ensures p) in
    let z8 : IsWire X 0x314c040048222280cc1232c0214488128c032104334cc82021040402c01222c8 _ = and_gate X _ _ _ _ _ t41 y10 (c.and-z8.ensures p) in
    let z9 : IsWire X 0x141c40c23034c2c1341400820c1c0281c2021c24c103281c00030c3c01c10c3c _ = and_gate X _ _ _ _ _ t44 y12 (c.and-z9.ensures p) in
    let z10 : IsWire X 0x6028010892960494961202866860216884908086006141492869686100121612 _ = and_gate X _ _ _ _ _ t37 y3 (c.and-z10.ensures p) in
    let z11 : IsWire X 0x405082aaa0085055a2aa150551118000444482a8aa20150182a2150401150a2a _ = and_gate X _ _ _ _ _ t33 y4 (c.and-z11.ensures p) in
    let z12 : IsWire X 0x223211111133203130111033133111084c848040c8c040448c00040c8c88c4 _ = and_gate X _ _ _ _ _ t43 y13 (c.and-z12.ensures p) in
    let z13 : IsWire X 0x642204089188009198999084402222600226042810808990998889960646002 _ = and_gate X _ _ _ _ _ t40 y5 (c.and-z13.ensures p) in
    let z14 : IsWire X 0x10105450088082a200828a000504551282228085454555554415450a202220a _ = and_gate X _ _ _ _ _ t29 y2 (c.and-z14.ensures p) in
    let z15 : IsWire X 0x58af0000831a000033dd0000d6a246a900000bb60000d8830000d6fc0000 _ = and_gate X _ _ _ _ _ t42 y9 (c.and-z15.ensures p) in
    let z16 : IsWire X 0xa0c60e00e0760800805c030020c50700b0ac0a00c091010090670d0070290a0 _ = and_gate X _ _ _ _ _ t45 y14 (c.and-z16.ensures p) in
    let z17 : IsWire X 0x10f060c0a0606030f0206030905090690c06010b050d0e0a0101080c090e0c0 _ = and_gate X _ _ _ _ _ t41 y8 (c.and-z17.ensures p) in
    (z0, (z1, (z2, (z3, (z4, (z5, (z6, (z7, (z8, (z9, (z10, (z11, (z12, (z13, (z14, (z15, (z16, (z17, refl))))))))))))))))))
