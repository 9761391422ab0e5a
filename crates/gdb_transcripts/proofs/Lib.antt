mod ListRests
