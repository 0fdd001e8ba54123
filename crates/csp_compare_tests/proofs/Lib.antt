mod AskedParts
