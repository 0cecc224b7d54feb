use Rattle.std.proofs.Common.{lit<, refl}
use Rattle.aes_block.specs.TruthTables.{BITS}
use Rattle.aes_block.specs.Wires.{IsWire}
use Rattle.aes_block.proofs.Gates.{part_wire, xor_gate}
use Rattle.aes_block.proofs.planes.substitution.factors.Goals as goal

pub returns : goal.returns
returns g c p X in_q =
    let part = g.P.Plane.part p in
    let x7 = part_wire part X BITS c.args.q in_q 0 (lit< tt) c.index-q-0.result in
    let x6 = part_wire part X BITS c.args.q in_q 1 (lit< tt) c.index-q-1.result in
    let x5 = part_wire part X BITS c.args.q in_q 2 (lit< tt) c.index-q-2.result in
    let x4 = part_wire part X BITS c.args.q in_q 3 (lit< tt) c.index-q-3.result in
    let x3 = part_wire part X BITS c.args.q in_q 4 (lit< tt) c.index-q-4.result in
    let x2 = part_wire part X BITS c.args.q in_q 5 (lit< tt) c.index-q-5.result in
    let x1 = part_wire part X BITS c.args.q in_q 6 (lit< tt) c.index-q-6.result in
    let x0 = part_wire part X BITS c.args.q in_q 7 (lit< tt) c.index-q-7.result in
    let y14 : IsWire X 0xf0ff0f00f0ff0f00f0ff0f00f0ff0f00f0ff0f00f0ff0f00f0ff0f00f0ff0f0 _ = xor_gate X _ _ _ _ _ x3 x5 (c.xor-y14.ensures p) in
    let y13 : IsWire X 0x33333333333333333333333333333333cccccccccccccccccccccccccccccccc _ = xor_gate X _ _ _ _ _ x0 x6 (c.xor-y13.ensures p) in
    let y9 : IsWire X 0xffff0000ffff0000ffff0000ffffffff0000ffff0000ffff0000ffff0000 _ = xor_gate X _ _ _ _ _ x0 x3 (c.xor-y9.ensures p) in
    let y8 : IsWire X 0xf0f0f0f0f0f0f0f0f0f0f0f0f0f0f0ff0f0f0f0f0f0f0f0f0f0f0f0f0f0f0f0 _ = xor_gate X _ _ _ _ _ x0 x5 (c.xor-y8.ensures p) in
    let t0 : IsWire X 0xffffffffffffffff0000000000000000ffffffffffffffff00000000 _ = xor_gate X _ _ _ _ _ x1 x2 (c.xor-t0.ensures p) in
    let y1 : IsWire X 0xaaaaaaaa5555555555555555aaaaaaaaaaaaaaaa5555555555555555aaaaaaaa _ = xor_gate X _ _ _ _ _ t0 x7 (c.xor-y1.ensures p) in
    let y4 : IsWire X 0x5555aaaaaaaa5555aaaa55555555aaaa5555aaaaaaaa5555aaaa55555555aaaa _ = xor_gate X _ _ _ _ _ y1 x3 (c.xor-y4.ensures p) in
    let y12 : IsWire X 0x3c3cc3c33c3cc3c33c3cc3c33c3cc3c3c3c33c3cc3c33c3cc3c33c3cc3c33c3c _ = xor_gate X _ _ _ _ _ y13 y14 (c.xor-y12.ensures p) in
    let y2 : IsWire X 0x55555555aaaaaaaaaaaaaaaa55555555aaaaaaaa5555555555555555aaaaaaaa _ = xor_gate X _ _ _ _ _ y1 x0 (c.xor-y2.ensures p) in
    let y5 : IsWire X 0x6666666699999999999999996666666666666666999999999999999966666666 _ = xor_gate X _ _ _ _ _ y1 x6 (c.xor-y5.ensures p) in
    let y3 : IsWire X 0x6969696996969696969696966969696996969696696969696969696996969696 _ = xor_gate X _ _ _ _ _ y5 y8 (c.xor-y3.ensures p) in
    let t1 : IsWire X 0xc33c3cc3c33c3cc3c33c3cc3c33c3cc33cc3c33c3cc3c33c3cc3c33c3cc3c33c _ = xor_gate X _ _ _ _ _ x4 y12 (c.xor-t1.ensures p) in
    let y15 : IsWire X 0x33cccc3333cccc3333cccc3333cccc33cc3333cccc3333cccc3333cccc3333cc _ = xor_gate X _ _ _ _ _ t1 x5 (c.xor-y15.ensures p) in
    let y20 : IsWire X 0x3cc3c33c3cc3c33cc33c3cc3c33c3cc3c33c3cc3c33c3cc33cc3c33c3cc3c33c _ = xor_gate X _ _ _ _ _ t1 x1 (c.xor-y20.ensures p) in
    let y6 : IsWire X 0x9966669999666699996666999966669966999966669999666699996666999966 _ = xor_gate X _ _ _ _ _ y15 x7 (c.xor-y6.ensures p) in
    let y10 : IsWire X 0x33cccc33cc3333cccc3333cc33cccc33cc3333cc33cccc3333cccc33cc3333cc _ = xor_gate X _ _ _ _ _ y15 t0 (c.xor-y10.ensures p) in
    let y11 : IsWire X 0x3cc33cc33cc33cc3c33cc33cc33cc33c3cc33cc33cc33cc3c33cc33cc33cc33c _ = xor_gate X _ _ _ _ _ y20 y9 (c.xor-y11.ensures p) in
    let y7 : IsWire X 0x9669966996699669699669966996699696699669966996696996699669966996 _ = xor_gate X _ _ _ _ _ x7 y11 (c.xor-y7.ensures p) in
    let y17 : IsWire X 0xf0ff0f0f0f00f0f0f0ff0f0f0f00f0ff0f00f0f0f0ff0f0f0f00f0f0f0ff0f0 _ = xor_gate X _ _ _ _ _ y10 y11 (c.xor-y17.ensures p) in
    let y19 : IsWire X 0x3cc3c33cc33c3cc3c33c3cc33cc3c33c3cc3c33cc33c3cc3c33c3cc33cc3c33c _ = xor_gate X _ _ _ _ _ y10 y8 (c.xor-y19.ensures p) in
    let y16 : IsWire X 0x3cc33cc3c33cc33c3cc33cc3c33cc33c3cc33cc3c33cc33c3cc33cc3c33cc33c _ = xor_gate X _ _ _ _ _ t0 y11 (c.xor-y16.ensures p) in
    let y21 : IsWire X 0xff00ff0f00ff00f0ff00ff0f00ff00ff00ff00f0ff00ff0f00ff00f0ff00ff0 _ = xor_gate X _ _ _ _ _ y13 y16 (c.xor-y21.ensures p) in
    let y18 : IsWire X 0xc33cc33c3cc33cc3c33cc33c3cc33cc33cc33cc3c33cc33c3cc33cc3c33cc33c _ = xor_gate X _ _ _ _ _ x0 y16 (c.xor-y18.ensures p) in
    (x7, (y1, (y2, (y3, (y4, (y5, (y6, (y7, (y8, (y9, (y10, (y11, (y12, (y13, (y14, (y15, (y16, (y17, (y18, (y19, (y20, (y21, refl))))))))))))))))))))))
