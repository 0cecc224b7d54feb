use Rattle.ctr.proofs.flavors.counted.CountedNonce+W+array+B+u8.count.Goals as goal

pub returns-clause-value : goal.returns-clause-value
returns-clause-value g c = c.next-self.ensures.value
