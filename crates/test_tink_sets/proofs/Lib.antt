mod KeptFacts
