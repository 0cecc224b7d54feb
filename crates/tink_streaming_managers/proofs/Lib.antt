mod KeyFacts
